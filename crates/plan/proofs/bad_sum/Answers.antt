-- `plan::bad_sum` meets its contract. Assumes nothing.
use Rattle.std.proofs.Common.{◌≡◌, ◌≤◌, refl, sym, ap, ◌∙◌, rules, arith, ◌^◌, length, take}
use Rattle.std.specs.List.{sum_by as std_sum_by}
use Rattle.std.proofs.lemmas.List.{length-take}
use Rattle.std.proofs.lemmas.List.Recursion.{is_sum_by}
use Rattle.std.proofs.lemmas.Iterator.{YieldsList-from_slice, YieldsList-from_map}
use Rattle.std.proofs.lemmas.Iterator.Adapters.{fits_from_length, at_most_from_yields_List}
use Rattle.std.proofs.lemmas.Iterator.Consumers.{sum_by_from_yields_List}
use Rattle.theory.specs.Sums.{sum_by, count_from}
use Rattle.theory.specs.Focal.{focal_at, listed, weights}
use Rattle.theory.specs.Limits.{most_held}
use Rattle.theory.specs.declared.Component.{Component}
use Rattle.theory.proofs.Sums.{sum_map}
use Rattle.plan.proofs.Entries.{taken}
use Rattle.plan.proofs.bad_sum.Goals as goal

-- The sum of the weights in use.
sum_is : (c : Component) → c.count ≤ length c.weights → std_sum_by (λ w. w) (take c.count c.weights) ≡ weights (listed c)
sum_is c h =
    sym (is_sum_by (sum_by (λ w. w)) (λ w. w) refl (λ w ws. refl) (take c.count c.weights)) ∙ ap (sum_by (λ w. w)) (taken 0 c.weights c.count h)
    ∙ sum_map (λ w. w) _ (count_from 0 c.count) ∙ sym (sum_map (λ f. f.weight) (focal_at c) (count_from 0 c.count))

pub sum-sum-requires-clause-fits : goal.sum-sum-requires-clause-fits
sum-sum-requires-clause-fits c =
    let d = c.args.c.component.now in
    fits_from_length _ _ most_held (2 ^ 64) (at_most_from_yields_List (YieldsList-from_slice (take d.count d.weights) cc) (search rules)) c.map.ensures.closure (omega arith)
    (λ x r q k. search rules)

pub returns : goal.returns
returns c =
    let d = c.args.c.component.now in
    let ws = take d.count d.weights in
    let sum : c.sum-sum.result ≡ weights (listed d) =
    sum_by_from_yields_List (λ w. w) ws c.map.result c.sum-sum.result c.sum-sum.ensures.ran
    (YieldsList-from_map _ (λ w. w) (YieldsList-from_slice ws cc) c.map.ensures.closure (λ x r q k. search rules))
    ∙ sum_is d (omega (arith, length-take d.count d.weights))
    in
    rw (c.from.ensures, sum)
