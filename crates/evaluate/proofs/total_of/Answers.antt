-- `evaluate::total_of` meets its contract: the product of all T is U, and that of the first ones fits. Assumes nothing.
use Rattle.std.proofs.Common.{rules, ◌≡◌, ℕ, zero, suc, Option, ◌+◌, ◌*◌, ◌^◌, ◌≤◌, ◌<◌, List, [], ◌∷◌, map, length, take, sym, ◌∙◌, subst, arith}
use Rattle.std.specs.List.{fold}
use Rattle.std.specs.Iterator.{Yields}
use Rattle.std.specs.Iterator.Runs.{EachRunFrom, YieldsRun}
use Rattle.std.proofs.lemmas.Iterator.{YieldsList, YieldsList-from_slice, YieldsList-from_map}
use Rattle.std.proofs.lemmas.Iterator.Consumers.{YieldsList-at, YieldsList-so_far}
use Rattle.std.proofs.lemmas.List.Folds.{fold-map}
use native.Mathlib.Nat.{mul_assoc, mul-le-mul, le_trans, le_of_eq, pow-suc, pow-le-pow_right}
use Rattle.theory.specs.Limits.{most_total, most_components}
use Rattle.theory.specs.Sums.{Every}
use Rattle.theory.specs.Masses.{total}
use Rattle.theory.specs.declared.Component.{Component}
use Rattle.plan.specs.declared.Plan.{Plan}
use Rattle.plan.specs.Plan.{components_of}
use Rattle.plan.specs.Valid.{Valid}
use Rattle.plan.proofs.Entries.{components_count}
use Rattle.evaluate.proofs.total_of.Goals as goal

product_is : (n : ℕ) (cs : List Component) → fold (λ a c. a * c.total) n cs ≡ n * total cs
product_is n [] = omega arith
product_is n (c ∷ cs) = product_is (n * c.total) cs ∙ mul_assoc n c.total (total cs)

small : {n i : ℕ} → n ≤ most_total ^ i → i ≤ most_components → n < 2 ^ 64
small {n} h l =
    let k : n ≤ most_total ^ most_components = le_trans h (pow-le-pow_right (omega arith) l) in
    omega arith

-- n times the first m T: n is a product of i of them.
product_fits : (n i m : ℕ) → n ≤ most_total ^ i → {cs : List Component} → Every (λ c. (1 ≤ c.total) × (c.total ≤ most_total)) cs → i + length cs ≤ most_components
    → fold ◌*◌ n (take m (map (λ c. c.total) cs)) < 2 ^ 64
product_fits n i zero h ts l = small h (omega arith)
product_fits n i (suc m) h Every.none l = small h (omega arith)
product_fits n i (suc m) h (Every.more {x = c} t ts) l =
    product_fits (n * c.total) (suc i) m (le_trans (mul-le-mul h t.1) (le_of_eq (sym (pow-suc most_total i)))) ts (omega arith)

-- A chain that gives each T can be asked for their product.
product_of : {p : Plan} → Valid p → {S : Type 0} {steps : S → Option ℕ → S → Type 0} {s : S} → YieldsList steps (λ x. x) s (map (λ c. c.total) (components_of p))
    → EachRunFrom steps s (λ r. fold (λ a x. a * x) 1 r.items < 2 ^ 64)
unfolding YieldsRun
product_of {p} valid {steps = steps} road = λ r _ at.
    let so_far = YieldsList-so_far road r.items _ (subst (λ u. Yields steps u r.items r.gave.0.0) at r.gave.0.1) in
    rw (← fold-map ◌*◌ (λ x. x) 1 r.items, so_far)
    (product_fits 1 0 (length r.items) (omega arith) valid.totals (omega (arith, components_count p, valid.most)))

pub product-requires-clause-fits : goal.product-requires-clause-fits
product-requires-clause-fits c =
    product_of c.requires
    (YieldsList-from_map _ (λ d. d.total) (YieldsList-at c.map.ensures.source (YieldsList-from_slice {s = c.iter.result} (components_of c.args.p) cc))
    c.map.ensures.closure (λ x r q k. search rules))

pub returns : goal.returns
returns c =
    let e : c.product.result ≡ fold (λ a d. a * d.total) 1 (components_of c.args.p) = search rules in
    omega (arith, product_is 1 (components_of c.args.p))
