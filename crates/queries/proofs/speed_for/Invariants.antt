-- `queries::speed_for` meets its contract. The invariant: the sum so far is that of the weights in front of what is left, and does not meet the
-- target. Assumes nothing.
use Rattle.std.proofs.Common.{◌≡◌, ◌<◌, List, ◌++◌, map, length}
use Rattle.theory.specs.Focal.{weights}
use Rattle.theory.specs.declared.Focal.{Focal}
use Rattle.theory.specs.Speed.{Meets}
use Rattle.records.specs.Records.{head_record, records_of}
use Rattle.queries.proofs.speed_for.Given as goal

abbrev pub invariant-loop-r : goal.invariant-loop-r
invariant-loop-r l =
    let list = records_of l.list in
    (front : List Focal) × (list ≡ front ++ map head_record l.left.rest.now) × (l.belief ≡ weights front) × (0 < length list → Meets l.target l.total l.belief → ⊥)
