-- `writing::test_plan` meets its contract. Assumes nothing.
use Rattle.std.proofs.Common.{rules}
use Rattle.writing.proofs.Accepted.{is_sized}
use Rattle.writing.proofs.test_plan.Goals as goal

pub invariant_of-result : goal.invariant_of-result
invariant_of-result c = record { sized = is_sized c.args.p.now (search rules) }
