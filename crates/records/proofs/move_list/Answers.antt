-- `records::move_list` meets its contract. Assumes nothing.
use mathlib.Core.Path.{◌∙◌}
use native.Mathlib.Omega.{arith}
use borrow.Author.Rules.{rules}
use Rattle.records.proofs.Store.{moves}
use Rattle.records.proofs.move_list.Goals as goal

pub returns : goal.returns
returns c =
    let a = c.args in
    rw c.range.ensures at c.copy_within.ensures.after ∙ moves a.store.now (search rules) a.list a.start (omega arith)
