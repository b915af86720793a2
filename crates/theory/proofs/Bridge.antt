-- A sub-structure that names every component once has the drive's list: sums over the leaves' order and over the components' order agree. Assumes nothing.
use Prim.Native.Nat.{ℕ, suc, ◌+◌, ◌*◌, ◌≤◌, ◌<◌}
use mathlib.Core.Path.{◌≡◌, refl, sym, ap, ap₂, subst, ◌∙◌}
use mathlib.Core.Bool.{Bool, true, false, cond}
use mathlib.Core.List.{List, [], ◌∷◌, ◌++◌, map}
use native.Mathlib.Nat.{mul_assoc, mul_left_comm, mul-pos}
use native.Mathlib.Omega.{arith}
use lib.Dec.{eqb, ltb}
use lib.ListN.{get_or, set, length, length-set, length-map, length-append, get_or-map}
use lib.Seq.{get_or-set_same, get_or-set_other, set_comm, set_at, get_or_at, append_snoc}
use borrow.Author.Tests.{eqb-false, eq-eqb, ltb-true}
use Rattle.theory.specs.Sums.{sum_by, product_by, count_from, count_of, Every}
use Rattle.theory.specs.Masses.{masses, AllPositive}
use Rattle.theory.specs.Focal.{no_focal, Positive}
use Rattle.theory.specs.declared.Focal.{Focal}
use Rattle.theory.specs.Joins.{joined, joined_focal}
use Rattle.theory.specs.declared.Entry.{Entry}
use Rattle.theory.specs.Structure.{Φ, Tree, leaf, node, trees, leaves}
use Rattle.theory.specs.Choices.{choices, outcome, outcomes}
use Rattle.theory.specs.Lists.{drive_list, no_component, outcomes_of, list_of}
use Rattle.theory.specs.declared.Component.{Component}
use Rattle.theory.specs.declared.Join.{Join}
use Rattle.theory.proofs.Sums.{sum_ext, sum_scale, sum_map, sum_swap, sum_one_of_each}
use Rattle.theory.proofs.Counts.{count_append, by_counts, count_all}
use Rattle.theory.proofs.Structure.{NamesEach}
use Rattle.theory.proofs.Collect.{weigh, same_collect}
use Rattle.theory.proofs.Steps.{weigh-pairs, positive_outcomes_of, run-map}
use Rattle.theory.proofs.Every.{every_image, every_one_of_each}

-- What a row of intervals, one for each component, comes to through a sub-structure.
abbrev outcome_at : List Focal → Tree → Focal
outcome_at row (leaf i) = get_or row i no_focal
outcome_at row (node op l r) = joined_focal op (outcome_at row l) (outcome_at row r)

-- The structure function has its ends at the ends of the row.
Φ-tree : (end : Focal → ℕ) → end no_focal ≡ 0 → ((op : Join) (f g : Focal) → end (joined_focal op f g) ≡ joined op (end f) (end g))
    → (es : List Entry) (t : Tree) → trees es ≡ t ∷ [] → (row : List Focal) → Φ es (map end row) ≡ end (outcome_at row t)
Φ-tree end z both es t e row =
    ap (λ (p : List ℕ). get_or p 0 0) (sym (run-map (λ u. end (outcome_at row u)) leaf node (λ i. get_or (map end row) i 0) joined
    (λ i. subst (λ n. end (get_or row i no_focal) ≡ get_or (map end row) i n) z (sym (get_or-map end row i no_focal)))
    (λ op x y. both op (outcome_at row x) (outcome_at row y)) es []))
    ∙ ap (λ (p : List Tree). get_or (map (λ u. end (outcome_at row u)) p) 0 0) e

-- The outcome goes by the intervals of the components that are named.
outcome_agree : (t : Tree) (u w : List Focal) → ((j : ℕ) → 0 < count_of j (leaves t) → get_or w j no_focal ≡ get_or u j no_focal) → outcome_at w t ≡ outcome_at u t
outcome_agree (leaf i) u w h = h i (rw (eq-eqb i i refl) (omega arith))
outcome_agree (node op l r) u w h =
    ap₂ (joined_focal op)
    (outcome_agree l u w (λ j p. h j (omega (arith, count_append j (leaves l) (leaves r)))))
    (outcome_agree r u w (λ j p. h j (omega (arith, count_append j (leaves l) (leaves r)))))

module _ (cs : List Component) where
  abbrev focals_at : ℕ → List Focal
  focals_at i = masses (get_or cs i no_component)

  -- The sum over the focal elements of the components that are listed, in that order, each put at its place of a row.
  abbrev sum_over : List ℕ → List Focal → (List Focal → ℕ) → ℕ
  sum_over [] row G = G row
  sum_over (i ∷ js) row G = sum_by (λ f. f.weight * sum_over js (set row i f) G) (focals_at i)

  over_append : (js ks : List ℕ) (row : List Focal) (G : List Focal → ℕ) → sum_over (js ++ ks) row G ≡ sum_over js row (λ u. sum_over ks u G)
  over_append [] ks row G = refl
  over_append (i ∷ js) ks row G = sum_ext (λ f. ap (f.weight *◌) (over_append js ks (set row i f) G)) (focals_at i)

  -- What matters of G are the rows that differ from the given one at most at the listed places.
  over_ext : (js : List ℕ) (row : List Focal) (G H : List Focal → ℕ)
      → ((u : List Focal) → length u ≡ length row → ((j : ℕ) → count_of j js ≡ 0 → get_or u j no_focal ≡ get_or row j no_focal) → G u ≡ H u)
      → sum_over js row G ≡ sum_over js row H
  over_ext [] row G H h = h row refl (λ j e. refl)
  over_ext (i ∷ js) row G H h =
      sum_ext (λ f. ap (f.weight *◌) (over_ext js (set row i f) G H (λ u l a. h u (l ∙ length-set row i f) (λ j e. agree f u a j e (eqb j i) refl)))) (focals_at i)
    where
      agree : (f : Focal) (u : List Focal) → ((j : ℕ) → count_of j js ≡ 0 → get_or u j no_focal ≡ get_or (set row i f) j no_focal)
          → (j : ℕ) → count_of j (i ∷ js) ≡ 0 → (b : Bool) → eqb j i ≡ b → get_or u j no_focal ≡ get_or row j no_focal
      agree f u a j e true q = absurd (omega (arith, rw q at e))
      agree f u a j e false q = a j (omega (arith, rw q at e)) ∙ get_or-set_other row i j f no_focal (eqb-false j i q)

  over_swap : (G : List Focal → ℕ) (i j : ℕ) → (i ≡ j → ⊥) → (ks : List ℕ) (row : List Focal) → sum_over (i ∷ j ∷ ks) row G ≡ sum_over (j ∷ i ∷ ks) row G
  over_swap G i j ne ks row =
      sum_ext (λ f. sym (sum_scale f.weight (λ g. g.weight * sum_over ks (set (set row i f) j g) G) (focals_at j))) (focals_at i)
      ∙ (sum_swap (λ f g. f.weight * (g.weight * sum_over ks (set (set row i f) j g) G)) (focals_at i) (focals_at j)
      ∙ sum_ext (λ g. sum_ext (λ f. mul_left_comm f.weight g.weight (sum_over ks (set (set row i f) j g) G)
      ∙ ap (λ (u : List Focal). g.weight * (f.weight * sum_over ks u G)) (set_comm row i j f g ne)) (focals_at i)
      ∙ sum_scale g.weight (λ f. f.weight * sum_over ks (set (set row j g) i f) G) (focals_at i)) (focals_at j))

  -- Only how often each component is listed matters.
  over_count : (G : List Focal → ℕ) (ks js : List ℕ) → ((j : ℕ) → count_of j js ≡ count_of j ks) → (row : List Focal) → sum_over js row G ≡ sum_over ks row G
  over_count G ks js h row =
      ap (λ (F : List Focal → ℕ). F row) (by_counts (λ is u. sum_over is u G)
      (λ i is ls e k u. sum_by (λ f. f.weight * e k (set u i f)) (focals_at i)) (λ i j ne ls k u. over_swap G i j ne ls u k) ks js h)

  -- In leaf order the sum is that over the choices of the sub-structure.
  over_tree : (t : Tree) (k : ℕ → ℕ → ℕ) (row : List Focal) → ((j : ℕ) → count_of j (leaves t) ≤ 1) → ((j : ℕ) → 0 < count_of j (leaves t) → j < length row)
      → weigh k (outcomes_of cs t) ≡ sum_over (leaves t) row (λ u. k (outcome_at u t).low (outcome_at u t).high)
  over_tree (leaf i) k row d h =
      let l : i < length row = h i (rw (eq-eqb i i refl) (omega arith)) in
      sum_ext (λ f. ap (λ (x : Focal). f.weight * k x.low x.high) (sym (get_or-set_same row i f no_focal l))) (focals_at i)
  over_tree (node op l r) k row d h =
      let c : (j : ℕ) → count_of j (leaves l ++ leaves r) ≡ count_of j (leaves l) + count_of j (leaves r) = λ j. count_append j (leaves l) (leaves r) in
      let both : Focal → Focal → ℕ = λ f g. k (joined op f.low g.low) (joined op f.high g.high) in
      weigh-pairs k op (outcomes_of cs l) (outcomes_of cs r)
      ∙ (over_tree l (λ a b. weigh (λ x y. k (joined op a x) (joined op b y)) (outcomes_of cs r)) row (λ j. omega (arith, d j, c j)) (λ j p. h j (omega (arith, c j)))
      ∙ (over_ext (leaves l) row _ _ (λ u n a.
      over_tree r (λ x y. k (joined op (outcome_at u l).low x) (joined op (outcome_at u l).high y)) u (λ j. omega (arith, d j, c j)) (λ j p. omega (arith, n, h j (omega (arith, c j))))
      ∙ over_ext (leaves r) u _ _ (λ w m b. ap (λ (x : Focal). both x (outcome_at w r)) (sym (outcome_agree l u w (λ j p. b j (omega (arith, d j, c j)))))))
      ∙ sym (over_append (leaves l) (leaves r) row (λ u. both (outcome_at u l) (outcome_at u r)))))

-- In component order the sum is that over the choices of the components.
over_choices : (cs₁ cs₂ : List Component) (p q : List Focal) (k : ℕ) → length cs₁ ≡ k → length p ≡ k → length q ≡ length cs₂ → (G : List Focal → ℕ)
    → sum_over (cs₁ ++ cs₂) (count_from k (length cs₂)) (p ++ q) G ≡ sum_by (λ ch. product_by (λ f. f.weight) ch * G (p ++ ch)) (choices cs₂)
over_choices cs₁ [] p [] k a b c G = omega arith
over_choices cs₁ [] p (x ∷ q) k a b c G = absurd (omega arith)
over_choices cs₁ (c' ∷ cs₂) p [] k a b c G = absurd (omega arith)
over_choices cs₁ (c' ∷ cs₂) p (x ∷ q) k a b c G =
    let w : List Focal → ℕ = product_by (λ f. f.weight) in
    let cs : List Component = cs₁ ++ c' ∷ cs₂ in
    let js : List ℕ = count_from (suc k) (length cs₂) in
    ap (λ (d : Component). sum_by (λ f. f.weight * sum_over cs js (set (p ++ x ∷ q) k f) G) (masses d)) (get_or_at cs₁ c' cs₂ no_component k a)
    ∙ (sum_ext (λ f. ap (f.weight *◌)
    (ap (λ (u : List Focal). sum_over cs js u G) (set_at p x q f k b ∙ sym (append_snoc p f q))
    ∙ (ap (λ (ds : List Component). sum_over ds js (p ++ (f ∷ []) ++ q) G) (sym (append_snoc cs₁ c' cs₂))
    ∙ (over_choices (cs₁ ++ (c' ∷ [])) cs₂ (p ++ (f ∷ [])) q (suc k) (omega (arith, length-append cs₁ (c' ∷ []))) (omega (arith, length-append p (f ∷ []))) (omega arith) G
    ∙ sum_ext (λ ch. ap (λ (u : List Focal). w ch * G u) (append_snoc p f ch)) (choices cs₂))))
    ∙ (sym (sum_scale f.weight (λ ch. w ch * G (p ++ f ∷ ch)) (choices cs₂))
    ∙ sum_ext (λ ch. sym (mul_assoc f.weight (w ch) (G (p ++ f ∷ ch)))) (choices cs₂))) (masses c')
    ∙ sym (sum_one_of_each (λ ch. w ch * G (p ++ ch)) (masses c') (map masses cs₂)))

-- Every weighted sum over the drive's outcomes is that over the choices of the tree.
weigh-outcomes : (cs : List Component) (es : List Entry) (t : Tree) → trees es ≡ t ∷ [] → NamesEach (length cs) t
    → (k : ℕ → ℕ → ℕ) → weigh k (outcomes es cs) ≡ weigh k (outcomes_of cs t)
weigh-outcomes cs es t e names k =
    let w : List Focal → ℕ = product_by (λ f. f.weight) in
    let row : List Focal = map (λ c. no_focal) cs in
    let n : length row ≡ length cs = length-map cs (λ c. no_focal) in
    let G : List Focal → ℕ = λ u. k (outcome_at u t).low (outcome_at u t).high in
    sum_map (λ f. f.weight * k f.low f.high) (outcome es) (choices cs)
    ∙ (sum_ext (λ ch. ap (w ch *◌) (ap₂ k (Φ-tree (λ f. f.low) refl (λ op f g. refl) es t e ch) (Φ-tree (λ f. f.high) refl (λ op f g. refl) es t e ch))) (choices cs)
    ∙ (sym (over_choices [] cs [] row 0 refl refl n G)
    ∙ (sym (over_count cs G (count_from 0 (length cs)) (leaves t) (λ j. names j ∙ sym (count_all (length cs) j)) row)
    ∙ sym (over_tree cs t k row (λ j. (named j).0) (λ j p. omega (arith, (named j).1 p, n))))))
  where
    named : (j : ℕ) → (count_of j (leaves t) ≤ 1) × (0 < count_of j (leaves t) → j < length cs)
    named j = rw (names j) (go (ltb j (length cs)) refl)
      where
        go : (b : Bool) → ltb j (length cs) ≡ b → (cond b 1 0 ≤ 1) × (0 < cond b 1 0 → j < length cs)
        go true q = (omega arith, λ p. ltb-true j (length cs) q)
        go false q = (omega arith, λ p. absurd (omega arith))

-- The outcomes have weights above 0.
product_positive : {ch : List Focal} → Every Positive ch → 0 < product_by (λ f. f.weight) ch
product_positive Every.none = omega arith
product_positive (Every.more p r) = mul-pos p (product_positive r)

positive_outcomes : (es : List Entry) {cs : List Component} → AllPositive cs → Every Positive (outcomes es cs)
positive_outcomes es p = every_image (outcome es) (λ ch. product_positive) (every_one_of_each (every_image masses (λ c h. h) p))

-- The drive's list is the list of the tree that the structure leaves.
pub drive_is_tree : {cs : List Component} → AllPositive cs → (es : List Entry) (t : Tree) → trees es ≡ t ∷ [] → NamesEach (length cs) t
    → drive_list es cs ≡ list_of cs t
drive_is_tree {cs} p es t e names = same_collect (positive_outcomes es p) (positive_outcomes_of p t) (weigh-outcomes cs es t e names)
