-- `plan::bad_entries` meets its contract. Assumes nothing.
use Rattle.std.proofs.Common.{sym, ◌∙◌, rules}
use borrow.Author.Tests.{tests}
use Rattle.std.proofs.lemmas.Iterator.{YieldsList-from_slice}
use Rattle.std.proofs.lemmas.Iterator.Search.{any_from_yields_List}
use Rattle.theory.specs.Codes.{entry_of}
use Rattle.plan.specs.Rules.{bad_entry, rule9}
use Rattle.plan.proofs.Tests.{any_list, any_map}
use Rattle.plan.proofs.bad_entries.Goals as goal

pub returns : goal.returns
unfolding rule9
returns c =
    let codes = c.args.codes.now in
    any_from_yields_List (λ code. bad_entry c.args.n (entry_of code)) _ _ c.any.result c.any.ensures.ran (YieldsList-from_slice codes cc) (λ x b q k. search (rules, tests))
    ∙ any_list _ codes ∙ sym (any_map (bad_entry c.args.n) entry_of codes)
