-- `reading::read_blocks` meets its contract: the blocks before block i were read as the sheet has them, and none is cut short. Assumes nothing.
use mathlib.Core.Path.{◌≡◌}
use mathlib.Core.Bool.{Bool, false}
use mathlib.Core.List.{List, ◌++◌}
use Prim.Native.Nat.{ℕ, ◌≤◌}
use lib.ListN.{length, drop, replicate}
use Rattle.theory.specs.Limits.{most_components}
use Rattle.block.specs.Block.{zero_component}
use Rattle.theory.specs.declared.Component.{Component}
use Rattle.plan.specs.declared.Flaws.{Flaws}
use Rattle.reading.specs.declared.Blocks.{Blocks}
use Rattle.reading.specs.Reading.{any_cut, uncut_blocks}
use Rattle.reading.proofs.read_blocks.Given as goal

-- What the loop has so far.
abbrev pub so_far : List Component → Bool → Flaws → ℕ → Blocks
so_far components nonzero flaws end = record { components = components; nonzero = nonzero; flaws = flaws; end = end }

abbrev pub invariant-loop-component : goal.invariant-loop-component
invariant-loop-component l =
    record {
      uncut : any_cut l.sheet l.component-index ≡ false;
      read : so_far (l.component-items ++ drop l.n (replicate most_components zero_component)) l.nonzero l.flaws l.end ≡ uncut_blocks l.sheet l.component-index;
      inside : l.end ≤ length l.sheet;
    }
