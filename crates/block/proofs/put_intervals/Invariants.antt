-- `block::put_intervals` meets its contract. The invariant: the first i intervals are put. Assumes nothing.
use Rattle.std.proofs.Common.{◌≡◌}
use Rattle.field.specs.Fields.{put_all}
use Rattle.block.specs.Block.{place_of, intervals_of}
use Rattle.block.proofs.put_intervals.Given as goal

abbrev pub invariant-loop-i : goal.invariant-loop-i
invariant-loop-i l = l.dst ≡ put_all l.initial.dst (place_of 0) (intervals_of l.c l.i)
