-- `wire::decode_plan` meets its contract. Assumes nothing.
use Prim.Native.Nat.{ℕ, ◌+◌, ◌*◌}
use mathlib.Core.Path.{◌≡◌, sym, ap, ◌∙◌}
use native.Mathlib.Omega.{arith}
use lib.ListN.{length-set}
use lib.Seq.{take_all}
use Rattle.theory.specs.Limits.{most_components}
use Rattle.wire.specs.Wire.{component_size, decode_component, components_in, decode_plan}
use Rattle.wire.proofs.Decoding.{filled_next}
use Rattle.wire.proofs.decode_plan.Goals as goal

pub loop-i-preserved : goal.loop-i-preserved
loop-i-preserved c =
    let l = c.loop-i.invariant in
    record {
      long = length-set _ _ _ ∙ l.long;
      few = omega arith;
      filled = filled_next (λ i. decode_component c.args.s.now (1 + component_size * i)) _ c.loop-i.i _ (omega arith) l.filled c.decode_component.ensures;
    }

pub returns : goal.returns
unfolding decode_plan
returns c =
    let l = c.loop-i.invariant in
    let all : c.loop-i.i ≡ most_components = omega arith in
    let components_are = sym (take_all c.loop-i.i c.loop-i.component-items (omega arith)) ∙ (l.filled ∙ ap (λ (n : ℕ). components_in c.args.s.now 1 n) all) in
    rw (components_are, c.from.ensures, c.number_in.ensures, c.numbers_in.ensures)
