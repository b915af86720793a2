-- `block::read_component` meets its contract. Assumes nothing.
use Rattle.std.proofs.Common.{◌≡◌, ◌+◌, ◌^◌, ◌<◌, ℕ, List, arith, add-one, lit≤}
use Rattle.std.proofs.Math.ListN.{set}
use Rattle.field.proofs.FieldLaws.{field_below}
use Rattle.theory.specs.declared.Component.{Component}
use Rattle.theory.specs.declared.Focal.{Focal}
use Rattle.block.specs.Rows.{row}
use Rattle.block.specs.Block.{speed_bits, weight_bits, place_of, interval_at, interval_in, filled_with, component_of}
use Rattle.block.proofs.Laws.{default_is_zero}
use Rattle.block.proofs.read_component.Goals as goal

-- One interval more.
turn : (s : List ℕ) (i p : ℕ) (c : Component) (f : Focal) → c ≡ filled_with (interval_in s) i 0 0 → p ≡ place_of i → f ≡ interval_at s p
    → ◌≡◌ {A = Component} (record c { lows = set c.lows i f.low; highs = set c.highs i f.high; weights = set c.weights i f.weight }) (filled_with (interval_in s) (i + 1) 0 0)
unfolding row
turn s i p c f e q g = rw (e, g, q, add-one)

-- The count and the total put in.
last : (s : List ℕ) (k t i : ℕ) (c : Component) → c ≡ filled_with (interval_in s) i 0 0 → i ≡ k
    → ◌≡◌ {A = Component} (record c { count = k; total = t }) (component_of s k t)
unfolding component_of
last s k t i c p e = rw (p, e)

-- A weight fits 16 bits.
fit : (s : List ℕ) (p : ℕ) (f : Focal) → f ≡ interval_at s p → f.weight < 2 ^ 16
fit s p f e = rw e (field_below s (p + speed_bits + speed_bits) weight_bits 16 (lit≤ tt))

pub loop-i-init : goal.loop-i-init
unfolding row
loop-i-init c = default_is_zero c.default-c.result c.default-c.ensures

pub overflow_cast-c : goal.overflow_cast-c
overflow_cast-c c = record { fits = fit _ _ _ c.read_interval-f.ensures }

pub loop-i-preserved : goal.loop-i-preserved
loop-i-preserved c = turn _ c.loop-i.i _ _ _ c.loop-i.invariant c.interval_place.ensures c.read_interval-f.ensures

pub returns : goal.returns
returns c = last c.args.part.now c.args.extent.count c.args.total _ _ c.loop-i.invariant (omega arith)
