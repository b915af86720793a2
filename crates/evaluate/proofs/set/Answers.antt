-- `evaluate::set` meets its contract: tests and run, and the shares of the list at each demand. Assumes nothing.
use Rattle.std.proofs.Common.{◌≡◌, ℕ, ◌<◌, List, length, refl, sym, ◌∙◌}
use Rattle.std.proofs.lemmas.Result.{err_from_is_err_and}
use Rattle.plan.specs.Tests.{Test, first_broken}
use Rattle.queries.specs.Shares.{demand_tests}
use Rattle.evaluate.specs.SheetRun.{SheetRun, sheet_run, store_then}
use Rattle.evaluate.specs.Set.{set_answer, set_store_after, shares_after}
use Rattle.theory.proofs.Refusals.{positive}
use Rattle.evaluate.proofs.Numbers.{set_numbered, set_answer_is, set_store_is}
use Rattle.evaluate.proofs.Demands.{AcceptedCall, Called, refuses, accepts}
use Rattle.evaluate.proofs.SetMet.{shares_by_end}
use Rattle.evaluate.proofs.Asked.{called, summable, shares_asked}
use Rattle.evaluate.proofs.set.Goals as goal

-- Past tests and run.
module _ (s demands : List ℕ) (allowance : ℕ) (store shares : List ℕ) {n : ℕ} (own_is : n ≡ first_broken (demand_tests (length demands) (length shares)))
    {r : SheetRun} {after : List ℕ} (value : r ≡ sheet_run s (length store) n allowance) (left : after ≡ store_then s n allowance store) where
  abbrev own : List Test
  own = demand_tests (length demands) (length shares)

  this : Called s allowance store own r after
  this = called s allowance store own (set_numbered s demands (length store) (length shares)) own_is value left

  accepted : r.number ≡ 0 → AcceptedCall s allowance store own r after
  accepted = accepts s allowance store own this

  answered : r ≡ set_answer s demands allowance (length store) (length shares)
  answered = this.run_is ∙ sym (set_answer_is s demands allowance (length store) (length shares))

  stored : after ≡ set_store_after s demands allowance store (length shares)
  stored = this.stored ∙ sym (set_store_is s demands allowance store (length shares))

  kept : (k : ℕ) → 0 < k → r.number ≡ k → shares ≡ shares_after s demands allowance (length store) shares
  kept k h e = sym (shares_by_end s demands allowance store shares (refuses s allowance store own this k h e))

pub returns-in_err-run-clause-value : goal.returns-in_err-run-clause-value
returns-in_err-run-clause-value c =
    let a = c.args in
    let p = err_from_is_err_and c.from_residual.result c.from_residual.ensures.1 in
    let e = c.in_err-run.ensures in
    rw (p.1, p.2) (answered a.sheet.now a.demands.now a.allowance a.store.now a.shares.now c.test_demands-own.ensures e.value e.store_after)

pub returns-in_err-run-clause-store_after : goal.returns-in_err-run-clause-store_after
returns-in_err-run-clause-store_after c =
    let a = c.args in
    let e = c.in_err-run.ensures in
    stored a.sheet.now a.demands.now a.allowance a.store.now a.shares.now c.test_demands-own.ensures e.value e.store_after

pub returns-in_err-run-clause-shares_after : goal.returns-in_err-run-clause-shares_after
returns-in_err-run-clause-shares_after c =
    let a = c.args in
    let e = c.in_err-run.ensures in
    kept a.sheet.now a.demands.now a.allowance a.store.now a.shares.now c.test_demands-own.ensures e.value e.store_after _ (positive _) refl

pub put_set-requires-clause-summable : goal.put_set-requires-clause-summable
put_set-requires-clause-summable c =
    let a = c.args in
    let e = c.in_ok-run.ensures in
    let call = accepted a.sheet.now a.demands.now a.allowance a.store.now a.shares.now c.test_demands-own.ensures e.value e.store_after refl in
    summable call c.new-list.ensures.inside

pub returns-clause-value : goal.returns-clause-value
returns-clause-value c =
    let a = c.args in
    let e = c.in_ok-run.ensures in
    answered a.sheet.now a.demands.now a.allowance a.store.now a.shares.now c.test_demands-own.ensures e.value e.store_after

pub returns-clause-store_after : goal.returns-clause-store_after
returns-clause-store_after c =
    let a = c.args in
    let e = c.in_ok-run.ensures in
    stored a.sheet.now a.demands.now a.allowance a.store.now a.shares.now c.test_demands-own.ensures e.value e.store_after

pub returns-clause-shares_after : goal.returns-clause-shares_after
returns-clause-shares_after c =
    let a = c.args in
    let e = c.in_ok-run.ensures in
    let call = accepted a.sheet.now a.demands.now a.allowance a.store.now a.shares.now c.test_demands-own.ensures e.value e.store_after refl in
    c.put_set.ensures
    ∙ (shares_asked call c.new-list.ensures.inside a.demands.now a.shares.now
    ∙ sym (shares_by_end a.sheet.now a.demands.now a.allowance a.store.now a.shares.now refl))
