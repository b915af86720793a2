-- `plan::bad_joins` meets its contract. Assumes nothing.
use Rattle.std.proofs.Common.{◌≡◌, ◌≤◌, map, drop}
use Rattle.theory.specs.Structure.{joins_find_two}
use Rattle.theory.specs.Codes.{entry_of}
use Rattle.plan.proofs.bad_joins.Given as goal

abbrev pub invariant-loop-code : goal.invariant-loop-code
invariant-loop-code l =
    (joins_find_two (map entry_of (drop l.code-index l.codes)) l.height ≡ joins_find_two (map entry_of l.codes) 0) × (l.height ≤ l.code-index)
