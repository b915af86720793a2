-- `queries::shares_at` meets its contract. The invariant: the sums so far and those of what is left give the sums of all. Assumes nothing.
use Rattle.std.proofs.Common.{◌≡◌, ◌+◌, drop}
use Rattle.theory.specs.Choices.{belief, plausibility}
use Rattle.records.specs.Records.{records_of}
use Rattle.queries.proofs.shares_at.Given as goal

abbrev pub invariant-loop-r : goal.invariant-loop-r
invariant-loop-r l =
    let list = records_of l.list in
    let left = drop l.r-index list in
    (l.belief + belief l.demand left ≡ belief l.demand list) × (l.plausibility + plausibility l.demand left ≡ plausibility l.demand list)
