-- `wire::decode_plan` meets its contract: the first i places hold the components. Assumes nothing.
use Rattle.std.proofs.Common.{◌≡◌, ◌≤◌, length, take}
use Rattle.theory.specs.Limits.{most_components}
use Rattle.wire.specs.Wire.{components_in}
use Rattle.wire.proofs.decode_plan.Given as goal

abbrev pub invariant-loop-i : goal.invariant-loop-i
invariant-loop-i l =
    record {
      long : length l.component-items ≡ most_components;
      few : l.i ≤ most_components;
      filled : take l.i l.component-items ≡ components_in l.s 1 l.i;
    }
