-- `plan::bad_names` meets its contract. Assumes nothing.
use Rattle.std.proofs.Common.{refl, ◌∙◌, rules, arith, map}
use borrow.Author.Tests.{tests}
use Rattle.std.proofs.lemmas.Iterator.{YieldsList-from_range}
use Rattle.std.proofs.lemmas.Iterator.Search.{any_from_yields_List}
use Rattle.theory.specs.Codes.{entry_of}
use Rattle.plan.specs.Rules.{bad_naming, rule10}
use Rattle.plan.proofs.Tests.{any_range}
use Rattle.plan.proofs.bad_names.Goals as goal

pub returns : goal.returns
unfolding rule10
returns c =
    let n = c.args.n in
    let bad = bad_naming (map entry_of c.args.codes.now) in
    any_from_yields_List bad _ _ c.any.result c.any.ensures.ran (YieldsList-from_range 0 n n refl (omega arith)) (λ x b q k. search (rules, tests)) ∙ any_range bad n
