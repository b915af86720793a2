-- `evaluate::bounds` meets its contract: tests and run, and the shares of the list. Assumes nothing.
use Rattle.std.proofs.Common.{◌≡◌, ℕ, List, [], length, refl, sym, ◌∙◌}
use Rattle.std.proofs.lemmas.Result.{err_from_is_err_and}
use Rattle.evaluate.specs.Store.{store_after}
use Rattle.evaluate.specs.SheetRun.{SheetRun, sheet_run, store_then}
use Rattle.theory.proofs.Refusals.{positive}
use Rattle.evaluate.proofs.Numbers.{call_numbered, store_is}
use Rattle.evaluate.proofs.Demands.{AcceptedCall, Called, refuses, accepts, answer_by}
use Rattle.evaluate.proofs.Asked.{called, summable, answer_asked}
use Rattle.evaluate.proofs.bounds.Goals as goal

-- Past tests and run.
module _ (s : List ℕ) (allowance : ℕ) (store : List ℕ) {r : SheetRun} {after : List ℕ}
    (value : r ≡ sheet_run s (length store) 0 allowance) (left : after ≡ store_then s 0 allowance store) where
  this : Called s allowance store [] r after
  this = called s allowance store [] (call_numbered s (length store)) refl value left

  accepted : r.number ≡ 0 → AcceptedCall s allowance store [] r after
  accepted = accepts s allowance store [] this

  stored : after ≡ store_after s allowance store
  stored = this.stored ∙ sym (store_is s allowance store)

pub returns-in_err-run-clause-value : goal.returns-in_err-run-clause-value
returns-in_err-run-clause-value c =
    let a = c.args in
    let p = err_from_is_err_and c.from_residual.result c.from_residual.ensures.1 in
    let e = c.in_err-run.ensures in
    let call = this a.sheet.now a.allowance a.store.now e.value e.store_after in
    rw (p.1, p.2)
    (sym (answer_by a.sheet.now a.demand a.allowance a.store.now a.demand (refuses a.sheet.now a.allowance a.store.now [] call _ (positive _) refl)))

pub returns-in_err-run-clause-store_after : goal.returns-in_err-run-clause-store_after
returns-in_err-run-clause-store_after c =
    let a = c.args in
    let e = c.in_err-run.ensures in
    stored a.sheet.now a.allowance a.store.now e.value e.store_after

pub shares_at-shares-requires : goal.shares_at-shares-requires
shares_at-shares-requires c =
    let a = c.args in
    let e = c.in_ok-run.ensures in
    let call = accepted a.sheet.now a.allowance a.store.now e.value e.store_after refl in
    summable call c.new-list.ensures.inside

pub returns-clause-value : goal.returns-clause-value
returns-clause-value c =
    let a = c.args in
    let e = c.in_ok-run.ensures in
    let call = accepted a.sheet.now a.allowance a.store.now e.value e.store_after refl in
    answer_asked call c.new-list.ensures.inside a.demand (rw (← c.from.ensures) c.shares_at-shares.ensures)
    ∙ sym (answer_by a.sheet.now a.demand a.allowance a.store.now a.demand refl)

pub returns-clause-store_after : goal.returns-clause-store_after
returns-clause-store_after c =
    let a = c.args in
    let e = c.in_ok-run.ensures in
    stored a.sheet.now a.allowance a.store.now e.value e.store_after
