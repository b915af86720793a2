-- `queries::shares_at` meets its contract. The invariant: the sums so far and those of what is left give the sums of all. Assumes nothing.
use Rattle.std.proofs.Common.{◌≡◌, ap, ℕ, ◌+◌, ◌≤◌, ◌<◌, Bool, cond, leb, List, [], map, length, get_or, drop, arith}
use Rattle.theory.specs.Focal.{weights}
use Rattle.theory.specs.declared.Focal.{Focal}
use Rattle.theory.specs.Choices.{weight_where}
use Rattle.theory.proofs.Collect.{where_le}
use Rattle.records.specs.Records.{head_record}
use Rattle.records.proofs.RecordLaws.{walk_next}
use Rattle.queries.proofs.shares_at.Goals as goal

-- A sum goes on by what is counted of record i.
next : (test : ℕ → ℕ → Bool) (rs : List (List ℕ)) (i : ℕ) {f : Focal} {counted : ℕ} → i < length rs → f ≡ head_record (get_or rs i []) → counted ≡ cond (test f.low f.high) f.weight 0
    → (weight_where test (drop i (map head_record rs)) ≡ counted + weight_where test (drop (i + 1) (map head_record rs))) × (weight_where test (map head_record rs) ≤ weights (map head_record rs))
next test rs i h e k = (rw (k, e) (ap (weight_where test) (walk_next rs i h)), where_le test (map head_record rs))

pub overflow_add-belief : goal.overflow_add-belief
overflow_add-belief c =
    let a = c.args in
    omega (arith, next (λ low high. leb a.demand low) a.list.records.now c.loop-r.r-index c.loop-r-test.true c.focal_in-f.ensures c.counted-belief.ensures)

pub overflow_add-plausibility : goal.overflow_add-plausibility
overflow_add-plausibility c =
    let a = c.args in
    omega (arith, next (λ low high. leb a.demand high) a.list.records.now c.loop-r.r-index c.loop-r-test.true c.focal_in-f.ensures c.counted-plausibility.ensures)

pub loop-r-preserved : goal.loop-r-preserved
loop-r-preserved c =
    let a = c.args in (
      omega (arith, next (λ low high. leb a.demand low) a.list.records.now c.loop-r.r-index c.loop-r-test.true c.focal_in-f.ensures c.counted-belief.ensures),
      omega (arith, next (λ low high. leb a.demand high) a.list.records.now c.loop-r.r-index c.loop-r-test.true c.focal_in-f.ensures c.counted-plausibility.ensures),
    )
