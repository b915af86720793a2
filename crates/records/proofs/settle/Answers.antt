-- `records::settle` meets its contract. Assumes nothing.
use mathlib.Core.Path.{◌∙◌}
use native.Mathlib.Omega.{arith}
use borrow.Author.Rules.{rules}
use Rattle.records.proofs.Store.{settles}
use Rattle.records.proofs.settle.Goals as goal

pub returns : goal.returns
returns c = c.clear.ensures ∙ settles c.args.store.now (search rules) c.args.n c.args.end (omega arith)
