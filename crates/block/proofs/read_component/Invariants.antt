-- `block::read_component` meets its contract. The invariant: the first i intervals stand in the component. Assumes nothing.
use Rattle.std.proofs.Common.{◌≡◌}
use Rattle.block.specs.Block.{interval_in, filled_with}
use Rattle.block.proofs.read_component.Given as goal

abbrev pub invariant-loop-i : goal.invariant-loop-i
invariant-loop-i l = l.c ≡ filled_with (interval_in l.part) l.i 0 0
