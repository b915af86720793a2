-- `evaluate::speed` meets its contract: tests and run, the speed of the list, and its shares at the speed. Assumes nothing.
use Rattle.std.proofs.Common.{◌≡◌, ℕ, List, length, refl, sym, ◌∙◌}
use Rattle.std.proofs.lemmas.Result.{err_from_is_err_and}
use Rattle.plan.specs.Tests.{first_broken}
use Rattle.queries.specs.Speed.{target_tests}
use Rattle.evaluate.specs.SheetRun.{SheetRun, sheet_run, store_then}
use Rattle.evaluate.specs.Speed.{speed_store_after}
use Rattle.theory.proofs.Refusals.{positive}
use Rattle.evaluate.proofs.Numbers.{speed_numbered, speed_store_is}
use Rattle.evaluate.proofs.Demands.{AcceptedCall, Called, refuses, accepts}
use Rattle.evaluate.proofs.SpeedMet.{answer_by}
use Rattle.evaluate.proofs.Asked.{called, summable, searchable, speed_asked}
use Rattle.evaluate.proofs.speed.Goals as goal

-- Past tests and run.
module _ (s : List ℕ) (target allowance : ℕ) (store : List ℕ) {n : ℕ} (own_is : n ≡ first_broken (target_tests target)) {r : SheetRun} {after : List ℕ}
    (value : r ≡ sheet_run s (length store) n allowance) (left : after ≡ store_then s n allowance store) where
  this : Called s allowance store (target_tests target) r after
  this = called s allowance store (target_tests target) (speed_numbered s target (length store)) own_is value left

  accepted : r.number ≡ 0 → AcceptedCall s allowance store (target_tests target) r after
  accepted = accepts s allowance store (target_tests target) this

  stored : after ≡ speed_store_after s target allowance store
  stored = this.stored ∙ sym (speed_store_is s target allowance store)

pub returns-in_err-run-clause-value : goal.returns-in_err-run-clause-value
returns-in_err-run-clause-value c =
    let a = c.args in
    let p = err_from_is_err_and c.from_residual.result c.from_residual.ensures.1 in
    let e = c.in_err-run.ensures in
    let call = this a.sheet.now a.target a.allowance a.store.now c.test_target.ensures e.value e.store_after in
    rw (p.1, p.2)
    (sym (answer_by a.sheet.now a.target a.allowance a.store.now (refuses a.sheet.now a.allowance a.store.now (target_tests a.target) call _ (positive _) refl)))

pub returns-in_err-run-clause-store_after : goal.returns-in_err-run-clause-store_after
returns-in_err-run-clause-store_after c =
    let a = c.args in
    let e = c.in_err-run.ensures in
    stored a.sheet.now a.target a.allowance a.store.now c.test_target.ensures e.value e.store_after

pub speed_for-speed-requires : goal.speed_for-speed-requires
speed_for-speed-requires c =
    let a = c.args in
    let e = c.in_ok-run.ensures in
    let call = accepted a.sheet.now a.target a.allowance a.store.now c.test_target.ensures e.value e.store_after refl in
    searchable call c.new-list.ensures.inside

pub shares_at-shares-requires : goal.shares_at-shares-requires
shares_at-shares-requires c =
    let a = c.args in
    let e = c.in_ok-run.ensures in
    let call = accepted a.sheet.now a.target a.allowance a.store.now c.test_target.ensures e.value e.store_after refl in
    summable call c.new-list.ensures.inside

pub returns-clause-value : goal.returns-clause-value
returns-clause-value c =
    let a = c.args in
    let e = c.in_ok-run.ensures in
    let call = accepted a.sheet.now a.target a.allowance a.store.now c.test_target.ensures e.value e.store_after refl in
    speed_asked call c.new-list.ensures.inside a.target c.speed_for-speed.ensures c.shares_at-shares.ensures
    ∙ sym (answer_by a.sheet.now a.target a.allowance a.store.now refl)

pub returns-clause-store_after : goal.returns-clause-store_after
returns-clause-store_after c =
    let a = c.args in
    let e = c.in_ok-run.ensures in
    stored a.sheet.now a.target a.allowance a.store.now c.test_target.ensures e.value e.store_after
