-- `run::run_plan` meets its contract. The invariant: what holds while the codes from the index on are left. Assumes nothing.
use Rattle.std.proofs.Common.{drop, map}
use Rattle.theory.specs.Codes.{entry_of}
use Rattle.run.proofs.Running.{Running}
use Rattle.run.proofs.run_plan.Given as goal

abbrev pub invariant-loop-code : goal.invariant-loop-code
invariant-loop-code l = Running l.fn.p l.allowance l.initial.store (map entry_of (drop l.code-index l.code-items)) l.store l.stack
