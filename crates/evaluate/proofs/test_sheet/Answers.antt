-- `evaluate::test_sheet` meets its contract: the sheet is refused, or test 12 decides. Assumes nothing.
use Rattle.std.proofs.Common.{rules}
use Rattle.std.proofs.lemmas.Result.{err_from_is_err_and}
use Rattle.evaluate.proofs.Numbers.{number_refused, number_accepted}
use Rattle.evaluate.proofs.test_sheet.Goals as goal

pub returns-in_err-p-clause-number : goal.returns-in_err-p-clause-number
returns-in_err-p-clause-number c = search (rules, number_refused)

pub returns-in_err-when-clause-number : goal.returns-in_err-when-clause-number
returns-in_err-when-clause-number c =
    let p = err_from_is_err_and c.from_residual-in_err-when.result c.from_residual-in_err-when.ensures.1 in
    rw (p.1, p.2) (number_accepted c.args.sheet.now c.args.room c.in_ok-p.ensures c.store_for.ensures c.in_err-when.ensures)

pub returns-clause-number : goal.returns-clause-number
returns-clause-number c = number_accepted c.args.sheet.now c.args.room c.in_ok-p.ensures c.store_for.ensures c.in_ok-when.ensures
