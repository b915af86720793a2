-- The weights of a list add up to the product of the totals under it, and joins keep speeds in range: so all numbers fit. Assumes nothing.
use Prim.Native.Nat.{ℕ, ◌+◌, ◌*◌, ◌^◌, ◌≤◌, ◌<◌}
use mathlib.Core.Path.{◌≡◌, refl, sym, ap, ap₂, subst, ◌∙◌}
use mathlib.Core.List.{List, [], ◌∷◌, ◌++◌, map}
use mathlib.Core.Bool.{true}
use native.Mathlib.Nat.{mul-one, one-mul, mul_assoc, mul_comm, mul-le-mul, mul-pos, le_trans, le_of_eq, pow-zero, pow-suc, pow-le-pow_right}
use native.Mathlib.Omega.{arith}
use lib.Pow.{pow-add}
use lib.ListN.{length, get_or, length-append}
use Rattle.theory.specs.Sums.{sum_by, product_by, Every}
use Rattle.theory.specs.Masses.{masses, total, Balanced, AllInRange, AllPositive}
use Rattle.theory.specs.Focal.{weights, InRange}
use Rattle.theory.specs.declared.Focal.{Focal}
use Rattle.theory.specs.Limits.{most_total, most_components}
use Rattle.theory.specs.Joins.{pairs, joined_focal}
use Rattle.theory.specs.declared.Entry.{Entry}
use Rattle.theory.specs.Choices.{choices, outcome, outcomes}
use Rattle.theory.specs.Order.{collect}
use Rattle.theory.specs.Lists.{drive_list, join_lists, no_component, outcomes_of, list_of, total_of}
use Rattle.theory.specs.declared.Component.{Component}
use Rattle.theory.specs.declared.Join.{Join}
use Rattle.theory.specs.Structure.{NamedOnce, joins_find_two, Tree, leaf, node, leaves}
use Rattle.theory.proofs.Sums.{sum_ext, sum_map, sum_scale, sum_one_of_each}
use Rattle.theory.proofs.Steps.{weigh-pairs, every_pairs}
use Rattle.theory.proofs.Collect.{weights-collect, weights-weigh, every_collect}
use Rattle.theory.proofs.Counts.{once_length}
use Rattle.theory.proofs.Monotone.{joined_mono, joined_within}
use Rattle.theory.proofs.Every.{every_get_or}
use Rattle.theory.proofs.Structure.{one_tree}
use Rattle.theory.proofs.Bridge.{drive_is_tree}

-- The weights of the pairs add up to the product of the two sums.
pub weights-pairs : (op : Join) (fs gs : List Focal) → weights (pairs op fs gs) ≡ weights fs * weights gs
weights-pairs op fs gs =
    weights-weigh (pairs op fs gs)
    ∙ (weigh-pairs (λ a b. 1) op fs gs
    ∙ (sum_ext (λ f. ap (f.weight *◌) (sym (weights-weigh gs)) ∙ mul_comm f.weight (weights gs)) fs
    ∙ (sum_scale (weights gs) (λ f. f.weight) fs ∙ mul_comm (weights gs) (weights fs))))

product_append : {A : Type 0} (f : A → ℕ) (xs ys : List A) → product_by f (xs ++ ys) ≡ product_by f xs * product_by f ys
product_append f [] ys = sym (one-mul (product_by f ys))
product_append f (x ∷ xs) ys = ap (f x *◌) (product_append f xs ys) ∙ sym (mul_assoc (f x) (product_by f xs) (product_by f ys))

weights-outcomes_of : {cs : List Component} → Balanced cs → (t : Tree) → weights (outcomes_of cs t) ≡ total_of cs t
weights-outcomes_of p (leaf i) = every_get_or (λ c. weights (masses c) ≡ c.total) no_component refl p i ∙ sym (mul-one _)
weights-outcomes_of {cs} p (node op l r) =
    weights-pairs op (outcomes_of cs l) (outcomes_of cs r)
    ∙ (ap₂ ◌*◌ (weights-outcomes_of p l) (weights-outcomes_of p r) ∙ sym (product_append (λ i. (get_or cs i no_component).total) (leaves l) (leaves r)))

pub weights_list_of : {cs : List Component} → Balanced cs → (t : Tree) → weights (list_of cs t) ≡ total_of cs t
weights_list_of {cs} p t = weights-collect (outcomes_of cs t) ∙ weights-outcomes_of p t

weights_choices : {cs : List Component} → Balanced cs → sum_by (product_by (λ f. f.weight)) (choices cs) ≡ total cs
weights_choices Every.none = refl
weights_choices (Every.more {x = c} {xs = cs} p r) =
    sum_one_of_each (product_by (λ f. f.weight)) (masses c) (map masses cs)
    ∙ (sum_ext (λ f. sum_scale f.weight (product_by (λ g. g.weight)) (choices cs) ∙ (ap (f.weight *◌) (weights_choices r) ∙ mul_comm f.weight (total cs))) (masses c)
    ∙ (sum_scale (total cs) (λ f. f.weight) (masses c) ∙ (mul_comm (total cs) (weights (masses c)) ∙ ap (◌* total cs) p)))

pub weights-drive_list : {cs : List Component} → Balanced cs → (es : List Entry) → weights (drive_list es cs) ≡ total cs
weights-drive_list {cs} p es = weights-collect (outcomes es cs) ∙ (sum_map (λ f. f.weight) (outcome es) (choices cs) ∙ weights_choices p)

-- A product of numbers up to k is at most a power of k.
pub product_le : {A : Type 0} (f : A → ℕ) (k : ℕ) → {xs : List A} → Every (λ x. f x ≤ k) xs → product_by f xs ≤ k ^ length xs
product_le f k Every.none = le_of_eq (sym (pow-zero k))
product_le f k (Every.more {xs = xs} p r) =
    le_trans (mul-le-mul p (product_le f k r)) (le_of_eq (mul_comm k (k ^ length xs) ∙ sym (pow-suc k (length xs))))

-- U is at most 10 to the 18th for six components.
pub total_le : {cs : List Component} → Every (λ c. c.total ≤ most_total) cs → total cs ≤ most_total ^ length cs
total_le = product_le (λ c. c.total) most_total

pub total_positive : {cs : List Component} → Every (λ c. 1 ≤ c.total) cs → 0 < total cs
total_positive Every.none = omega arith
total_positive (Every.more h r) = mul-pos h (total_positive r)

thousands : (a b m n : ℕ) → a ≤ most_total ^ m → b ≤ most_total ^ n → m + n ≤ most_components → a * b < 2 ^ 64
thousands a b m n p q h =
    let l : a * b ≤ most_total ^ most_components = le_trans (mul-le-mul p q) (le_trans (le_of_eq (sym (pow-add most_total m n))) (pow-le-pow_right (omega arith) h)) in
    omega arith

-- ---- What is formed fits its place.

joined_in_range : (op : Join) (f g : Focal) → InRange f → InRange g → InRange (joined_focal op f g)
joined_in_range op f g p q = record {
  low_high = joined_mono op p.low_high q.low_high;
  below = joined_within op (omega arith) p.below q.below;
}

-- A list over m components has its speeds in range, and its weights add to at most the m-th power of the highest T.
pub record Fits (m : ℕ) (l : List Focal) : Type 0 where
  pub speeds : Every InRange l
  pub sum : weights l ≤ most_total ^ m

fits_collect : {m : ℕ} {l : List Focal} → Fits m l → Fits m (collect l)
fits_collect {m} {l} p = record {
  speeds = every_collect InRange (λ f g h k. record { low_high = k.low_high; below = k.below }) p.speeds;
  sum = rw (weights-collect l) p.sum;
}

module _ {m n : ℕ} (op : Join) {l r : List Focal} (p : Fits m l) (q : Fits n r) where
  pub fits_pairs : Fits (m + n) (pairs op l r)
  fits_pairs = record {
    speeds = every_pairs ◌*◌ op (joined_in_range op) p.speeds q.speeds;
    sum = rw (weights-pairs op l r, pow-add most_total m n) (mul-le-mul p.sum q.sum);
  }

  pub fits_join : Fits (m + n) (join_lists op l r)
  fits_join = fits_collect fits_pairs

module _ {m : ℕ} {l : List Focal} (p : Fits m l) (h : m ≤ most_components) where
  pub fits_weights : weights l < 2 ^ 64
  fits_weights = omega (arith, thousands (weights l) 1 m 0 p.sum (le_of_eq (sym (pow-zero most_total))) (omega arith))

module _ (c : Component) (range : Every InRange (masses c)) (small : weights (masses c) ≤ most_total) where
  fits_masses : Fits 1 (masses c)
  fits_masses = record { speeds = range; sum = omega arith }

  pub fits_leaf : Fits 1 (collect (masses c))
  fits_leaf = fits_collect fits_masses

-- These are components of an accepted sheet.
module _ {cs : List Component} (range : AllInRange cs) (balanced : Balanced cs) (totals : Every (λ c. c.total ≤ most_total) cs) where
  fits_at : (c : Component) → Every InRange (masses c) → weights (masses c) ≡ c.total → c.total ≤ most_total → Fits 1 (masses c)
  fits_at c r e h = fits_masses c r (omega arith)

  fits_tree : (t : Tree) → Fits (length (leaves t)) (outcomes_of cs t)
  fits_tree (leaf i) =
      fits_at (get_or cs i no_component) (every_get_or (λ c. Every InRange (masses c)) no_component Every.none range i)
      (every_get_or (λ c. weights (masses c) ≡ c.total) no_component refl balanced i) (every_get_or (λ c. c.total ≤ most_total) no_component (omega arith) totals i)
  fits_tree (node op l r) = rw (length-append (leaves l) (leaves r)) (fits_pairs op (fits_tree l) (fits_tree r))

  pub fits_list_of : (t : Tree) → Fits (length (leaves t)) (list_of cs t)
  fits_list_of t = fits_collect (fits_tree t)

  -- The drive's list fits where the structure names each component once.
  pub fits_drive : AllPositive cs → (es : List Entry) → length es + 1 ≡ 2 * length cs → NamedOnce (length cs) es → joins_find_two es 0 ≡ true
      → Fits (length cs) (drive_list es cs)
  fits_drive positive es l names two =
      let (t, one, each) = one_tree (length cs) es l names two in
      rw (drive_is_tree positive es t one each) (subst (λ n. Fits n (list_of cs t)) (once_length (length cs) (leaves t) each) (fits_list_of t))
