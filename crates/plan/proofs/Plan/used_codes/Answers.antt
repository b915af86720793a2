-- `plan::Plan::used_codes` meets its contract. Assumes nothing.
use native.Mathlib.Omega.{arith}
use Rattle.theory.specs.Limits.{entry_count}
use Rattle.plan.proofs.Entries.{taken}
use Rattle.plan.proofs.Plan.used_codes.Goals as goal

pub returns : goal.returns
returns c =
    let p = c.args.self.now in
    rw c.entry_count.ensures (taken 0 p.entries (entry_count p.count) (omega arith))
