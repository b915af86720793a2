-- `SizedPlan::sheet_length` meets its contract: `end` is the byte behind the blocks so far. Assumes nothing.
use mathlib.Core.Path.{◌≡◌}
use Rattle.writing.proofs.Sizes.{end_after}
use Rattle.writing.proofs.sized.SizedPlan.sheet_length.Given as goal

abbrev pub invariant-loop-c : goal.invariant-loop-c
invariant-loop-c l = l.end ≡ end_after l.c-items l.c-index
