-- `plan::bad_counts` meets its contract. Assumes nothing.
use Rattle.std.proofs.Common.{◌∙◌, rules}
use borrow.Author.Tests.{tests}
use Rattle.std.proofs.lemmas.Iterator.{YieldsList-from_slice}
use Rattle.std.proofs.lemmas.Iterator.Search.{any_from_yields_List}
use Rattle.plan.specs.Rules.{bad_count, rule4}
use Rattle.plan.proofs.Tests.{any_list}
use Rattle.plan.proofs.bad_counts.Goals as goal

pub returns : goal.returns
unfolding rule4
returns c =
    let cs = c.args.components.now in
    any_from_yields_List bad_count _ _ c.any.result c.any.ensures.ran (YieldsList-from_slice cs cc) (λ x b q k. search (rules, tests)) ∙ any_list bad_count cs
