-- `sheets::write_from_bytes` meets its contract. Assumes nothing.
use Rattle.std.proofs.Common.{rules}
use Rattle.sheets.proofs.Writer.{plan_refuses}
use Rattle.sheets.proofs.write_from_bytes.Goals as goal

pub returns-in_err-test_plan-clause-value : goal.returns-in_err-test_plan-clause-value
returns-in_err-test_plan-clause-value c = search (rules, plan_refuses)
