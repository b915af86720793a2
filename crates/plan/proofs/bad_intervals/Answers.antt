-- `plan::bad_intervals` meets its contract. Assumes nothing.
use Rattle.std.proofs.Common.{refl, ◌∙◌, rules, arith}
use borrow.Author.Tests.{tests}
use Rattle.std.proofs.lemmas.Iterator.{YieldsList-from_range}
use Rattle.std.proofs.lemmas.Iterator.Search.{any_from_yields_List}
use Rattle.plan.specs.Rules.{bad_interval}
use Rattle.plan.proofs.Tests.{any_range}
use Rattle.plan.proofs.bad_intervals.Goals as goal

pub returns : goal.returns
returns c =
    let d = c.args.c.component.now in
    any_from_yields_List (bad_interval d) _ _ c.any.result c.any.ensures.ran (YieldsList-from_range 0 d.count d.count refl (omega arith)) (λ x b q k. search (rules, tests))
    ∙ any_range (bad_interval d) d.count
