-- `block::put_intervals` meets its contract. Assumes nothing.
use Rattle.std.proofs.Common.{◌≡◌, ◌+◌, ℕ, List, refl, rules, add-one}
use Rattle.field.specs.Fields.{FieldsInside, put_all}
use Rattle.field.proofs.Fields.{put_all_append}
use Rattle.theory.specs.declared.Component.{Component}
use Rattle.block.specs.Block.{place_of, interval_of, intervals_of}
use Rattle.block.proofs.RoundTrip.{width_intervals}
use Rattle.block.proofs.put_intervals.Goals as goal

-- One interval more.
more : (s x y : List ℕ) (c : Component) (i a : ℕ) → x ≡ put_all s (place_of 0) (intervals_of c i) → a ≡ place_of i → y ≡ put_all x a (interval_of c i)
    → y ≡ put_all s (place_of 0) (intervals_of c (i + 1))
unfolding intervals_of
more s x y c i a p r q = rw (q, r, p, add-one, put_all_append s (place_of 0) (intervals_of c i), width_intervals c i)

pub loop-i-init : goal.loop-i-init
unfolding intervals_of put_all
loop-i-init c = refl

pub put_fields-requires : goal.put_fields-requires
unfolding FieldsInside
put_fields-requires c = search rules

pub loop-i-preserved : goal.loop-i-preserved
loop-i-preserved c = more _ _ _ _ _ _ c.loop-i.invariant c.interval_place.ensures (rw (c.from.ensures, c.from-in-loop-i.ensures, c.from-in-loop-i-2.ensures) at c.put_fields.ensures)
