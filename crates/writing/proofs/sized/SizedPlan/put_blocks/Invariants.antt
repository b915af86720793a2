-- `SizedPlan::put_blocks` meets its contract: the blocks so far stand in out, and `end` is the byte behind them. Assumes nothing.
use mathlib.Core.Path.{◌≡◌}
use Prim.Native.Nat.{◌*◌}
use lib.ListN.{take}
use Rattle.theory.specs.Sums.{for_each}
use Rattle.field.specs.Fields.{put_all}
use Rattle.block.specs.Block.{fields_of}
use Rattle.plan.specs.Sheet.{head_bytes}
use Rattle.writing.proofs.Sizes.{end_after}
use Rattle.writing.proofs.sized.SizedPlan.put_blocks.Given as goal

abbrev pub invariant-loop-c : goal.invariant-loop-c
invariant-loop-c l = record {
  end_is : l.end ≡ end_after l.c-items l.c-index;
  out_is : l.out ≡ put_all l.initial.out (8 * head_bytes) (for_each (take l.c-index l.c-items) fields_of);
}
