-- `evaluate::run_sheet` meets its contract: the tests, or past them the run. Assumes nothing.
use Rattle.std.proofs.Common.{rules, ◌∙◌}
use Rattle.evaluate.proofs.Finish.{runnable, run_refused, run_accepted, run_stored}
use Rattle.evaluate.proofs.run_sheet.Goals as goal

pub total_of-total-requires : goal.total_of-total-requires
total_of-total-requires c =
    let a = c.args in
    let tested = c.in_ok-p.ensures in
    (runnable a.sheet.now a.allowance a.store.now tested.number tested.plan).valid

pub run_plan-requires : goal.run_plan-requires
run_plan-requires c =
    let a = c.args in
    let tested = c.in_ok-p.ensures in
    runnable a.sheet.now a.allowance a.store.now tested.number tested.plan

pub returns-in_err-ran-clause-value : goal.returns-in_err-ran-clause-value
returns-in_err-ran-clause-value c = search (rules, run_refused)

pub returns-in_err-ran-clause-store_after : goal.returns-in_err-ran-clause-store_after
returns-in_err-ran-clause-store_after c =
    let a = c.args in
    let tested = c.in_ok-p.ensures in
    c.run_plan.ensures.store_after ∙ run_stored a.sheet.now a.allowance a.store.now tested.number tested.plan c.in_ok-own.was

pub returns-clause-value : goal.returns-clause-value
returns-clause-value c =
    let a = c.args in
    let tested = c.in_ok-p.ensures in
    run_accepted a.sheet.now a.allowance a.store.now tested.number tested.plan c.in_ok-own.was c.in_ok-ran.ensures.value c.total_of-total.ensures

pub returns-clause-store_after : goal.returns-clause-store_after
returns-clause-store_after c =
    let a = c.args in
    let tested = c.in_ok-p.ensures in
    c.run_plan.ensures.store_after ∙ run_stored a.sheet.now a.allowance a.store.now tested.number tested.plan c.in_ok-own.was
