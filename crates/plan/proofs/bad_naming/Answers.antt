-- `plan::bad_naming` meets its contract. Assumes nothing.
use Rattle.std.proofs.Common.{◌≡◌, sym, ap, ◌∙◌, not, rules}
use lib.Dec.{eqb}
use Rattle.std.specs.List.{count_by}
use Rattle.std.proofs.iter.runs.Made.{chains}
use Rattle.plan.proofs.Entries.{times_named}
use Rattle.plan.proofs.bad_naming.Goals as goal

pub returns : goal.returns
returns c =
    let a = c.args in
    let e : c.count.result ≡ count_by (eqb a.i) a.codes.now = search (rules, chains) in
    ap (λ k. not (eqb k 1)) (e ∙ sym (times_named a.i c.requires a.codes.now))
