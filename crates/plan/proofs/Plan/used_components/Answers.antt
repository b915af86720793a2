-- `plan::Plan::used_components` meets its contract. Assumes nothing.
use native.Mathlib.Omega.{arith}
use Rattle.theory.specs.Lists.{no_component}
use Rattle.plan.proofs.Entries.{taken}
use Rattle.plan.proofs.Plan.used_components.Goals as goal

pub returns : goal.returns
returns c = let p = c.args.self.now in taken no_component p.components p.count (omega arith)
