-- Every division's share lies between belief and plausibility. Assumes nothing.
use Prim.Native.Nat.{ℕ, ◌+◌, ◌*◌, ◌^◌, ◌<◌}
use mathlib.Core.Path.{◌≡◌, refl, sym, ◌∙◌}
use mathlib.Core.Bool.{cond}
use mathlib.Core.Logic.{◌⊎◌, inl, inr}
use mathlib.Core.List.{List, [], ◌∷◌, map, Forall₂}
use native.Mathlib.Nat.{mul-zero, zero-mul, one-mul, mul-add, add-mul, mul_assoc, mul_comm, mul_left_comm, pow-zero, pow-suc, eq-zero-or-pos}
use native.Mathlib.Omega.{arith}
use lib.Dec.{leb}
use lib.ListN.{length}
use Rattle.theory.specs.Sums.{sum_by, product_by}
use Rattle.theory.specs.Masses.{masses, total}
use Rattle.theory.specs.declared.Focal.{Focal}
use Rattle.theory.specs.declared.Entry.{Entry}
use Rattle.theory.specs.Structure.{Φ}
use Rattle.theory.specs.Choices.{choices, outcome, outcomes}
use Rattle.theory.specs.Division.{speeds, Parts, SplitsOne, Divides, draws, put_on, draw_weight, share_above, share_total}
use Rattle.theory.specs.declared.Component.{Component}
use Rattle.theory.proofs.Sums.{sum_ext, sum_scale, sum_add, sum_zero, sum_map, sum_one_of_each, cond_mul}
use Rattle.theory.proofs.Monotone.{Side, lower, upper, end, Bounding, bounding_refl, bounding_trans, bounding_mono, bounding_add, bounding_mul, test_mono, end_bounds, BoundingAll, all_refl, sum_bounding, Φ-bounding}

-- The sum over all choices, each interval by one of its ends, and the sum over all draws.
abbrev pub end_sum : Side → List Component → (List ℕ → ℕ) → ℕ
end_sum side cs G = sum_by (λ ch. product_by (λ f. f.weight) ch * G (map (end side) ch)) (choices cs)

abbrev pub draw_sum : List (List Parts) → (List ℕ → ℕ) → ℕ
draw_sum pss G = sum_by (λ draw. draw_weight pss draw * G draw) (draws pss)

pub end_sum_cons : (side : Side) (c : Component) (cs : List Component) (G : List ℕ → ℕ)
    → end_sum side (c ∷ cs) G ≡ sum_by (λ f. f.weight * end_sum side cs (λ v. G (end side f ∷ v))) (masses c)
end_sum_cons side c cs G =
    let w : List Focal → ℕ = product_by (λ f. f.weight) in
    sum_one_of_each (λ ch. w ch * G (map (end side) ch)) (masses c) (map masses cs)
    ∙ sum_ext (λ f. sum_ext (λ t. mul_assoc f.weight (w t) (G (end side f ∷ map (end side) t))) (choices cs)
    ∙ sum_scale f.weight (λ t. w t * G (end side f ∷ map (end side) t)) (choices cs)) (masses c)

pub draw_sum_cons : (ps : List Parts) (pss : List (List Parts)) (G : List ℕ → ℕ)
    → draw_sum (ps ∷ pss) G ≡ sum_by (λ s. put_on ps s * draw_sum pss (λ v. G (s ∷ v))) speeds
draw_sum_cons ps pss G =
    sum_one_of_each (λ draw. draw_weight (ps ∷ pss) draw * G draw) speeds (map (λ _. speeds) pss)
    ∙ sum_ext (λ s. sum_ext (λ t. mul_assoc (put_on ps s) (draw_weight pss t) (G (s ∷ t))) (draws pss)
    ∙ sum_scale (put_on ps s) (λ t. draw_weight pss t * G (s ∷ t)) (draws pss)) speeds

-- One more split adds its parts.
pub put_on_sum : {A : Type 0} (p : A → ℕ) (ps : List (A → ℕ)) (g : A → ℕ) (xs : List A)
    → sum_by (λ s. sum_by (λ q. q s) (p ∷ ps) * g s) xs ≡ sum_by (λ s. p s * g s) xs + sum_by (λ s. sum_by (λ q. q s) ps * g s) xs
put_on_sum p ps g xs = sum_ext (λ s. add-mul (p s) (sum_by (λ q. q s) ps) (g s)) xs ∙ sum_add (λ s. p s * g s) (λ s. sum_by (λ q. q s) ps * g s) xs

-- A bound that holds wherever k is not 0 holds of k times the numbers.
guarded : {side : Side} (k a b : ℕ) → (0 < k → Bounding side a b) → Bounding side (k * a) (k * b)
guarded {side} k a b h = go (eq-zero-or-pos k)
  where
    go : (k ≡ 0) ⊎ (0 < k) → Bounding side (k * a) (k * b)
    go (inl z) = rw (z, zero-mul a, zero-mul b) (bounding_refl side 0)
    go (inr p) = bounding_mul k (h p)

-- Weights are split onto targets: m times each weight is the sum of its parts, and the interval's end bounds each target that gets a part.
-- Then the sum over the weights at their ends bounds that over the targets, for a function that grows. Demand 3 has speeds as targets.
module _ {A : Type 0} (targets : List A) (place : A → ℕ) (side : Side) (m : ℕ) (Split : Focal → (A → ℕ) → Type 0)
    (inside : (f : Focal) (p : A → ℕ) → Split f p → (t : A) → 0 < p t → Bounding side (end side f) (place t))
    (whole : (f : Focal) (p : A → ℕ) → Split f p → sum_by p targets ≡ m * f.weight)
    (g : ℕ → ℕ) (mono : (a b : ℕ) → Bounding side a b → Bounding side (g a) (g b)) where
  split_bound : (f : Focal) (p : A → ℕ) → Split f p → Bounding side (m * (f.weight * g (end side f))) (sum_by (λ t. p t * g (place t)) targets)
  split_bound f p h =
      let e : m * (f.weight * g (end side f)) ≡ sum_by (λ t. p t * g (end side f)) targets
      = rw (← mul_assoc m f.weight (g (end side f)), ← whole f p h, mul_comm (sum_by p targets)) (sym (sum_scale (g (end side f)) p targets) ∙ sum_ext (λ t. mul_comm (g (end side f)) (p t)) targets) in
      rw e (sum_bounding side (λ t. guarded (p t) (g (end side f)) (g (place t)) (λ k. mono (end side f) (place t) (inside f p h t k))) targets)

  pub splits_bound : {fs : List Focal} {ps : List (A → ℕ)} → Forall₂ Split fs ps
      → Bounding side (m * sum_by (λ f. f.weight * g (end side f)) fs) (sum_by (λ t. sum_by (λ p. p t) ps * g (place t)) targets)
  splits_bound Forall₂.nil = rw (mul-zero m, sum_ext (λ t. zero-mul (g (place t))) targets, sum_zero targets) (bounding_refl side 0)
  splits_bound (Forall₂.cons {a = f} {b = p} {l₁ = fs} {l₂ = ps} h r) =
      rw (put_on_sum p ps (λ t. g (place t)) targets, mul-add m (f.weight * g (end side f))) (bounding_add (split_bound f p h) (splits_bound r))

-- m to the number of components, times the sum over one end of the choices, bounds the sum over the draws.
draws_bound : (side : Side) (m : ℕ) {cs : List Component} {pss : List (List Parts)} → Divides m cs pss → (G : List ℕ → ℕ)
    → ((u v : List ℕ) → BoundingAll side u v → Bounding side (G u) (G v)) → Bounding side (m ^ length cs * end_sum side cs G) (draw_sum pss G)
draws_bound side m Forall₂.nil G mono = rw (pow-zero m, one-mul (end_sum side [] G)) (bounding_refl side _)
draws_bound side m (Forall₂.cons {a = c} {b = ps} {l₁ = cs} {l₂ = pss} h r) G mono =
    let g : ℕ → ℕ = λ s. end_sum side cs (λ v. G (s ∷ v)) in
    let n : ℕ = m ^ length cs in
    let w : List Focal → ℕ = product_by (λ f. f.weight) in
    let grows : (a b : ℕ) → Bounding side a b → Bounding side (g a) (g b)
    = λ a b k. sum_bounding side (λ ch. bounding_mul (w ch) (mono _ _ (Forall₂.cons k (all_refl side (map (end side) ch))))) (choices cs) in
    let one : Bounding side (m * sum_by (λ f. f.weight * g (end side f)) (masses c)) (sum_by (λ s. put_on ps s * g s) speeds)
    = splits_bound speeds (λ s. s) side m (SplitsOne m) (λ f p k s q. end_bounds side f s (k.inside s q)) (λ f p k. k.whole) g grows h in
    rw (end_sum_cons side c cs G, draw_sum_cons ps pss G, pow-suc m (length cs), mul_assoc n m)
    (bounding_trans (bounding_mul n one)
    (rw (← sum_scale n (λ s. put_on ps s * g s) speeds, sum_ext (λ s. mul_left_comm n (put_on ps s) (g s)) speeds)
    (sum_bounding side (λ s. bounding_mul (put_on ps s) (draws_bound side m r (λ v. G (s ∷ v)) (λ u v k. mono _ _ (Forall₂.cons (bounding_refl side s) k)))) speeds)))

-- The test of a demand as a function of the components' speeds.
abbrev pub meets : List Entry → ℕ → List ℕ → ℕ
meets es d v = cond (leb d (Φ es v)) 1 0

-- The weights whose end is at least the demand are belief on the lower side and plausibility on the upper.
abbrev pub shares : Side → ℕ → List Focal → ℕ
shares side d = sum_by (λ f. cond (leb d (end side f)) f.weight 0)

end-outcome : (side : Side) (es : List Entry) (ch : List Focal) → end side (outcome es ch) ≡ Φ es (map (end side) ch)
end-outcome lower es ch = refl
end-outcome upper es ch = refl

pub shares_is : (side : Side) (es : List Entry) (cs : List Component) (d : ℕ) → shares side d (outcomes es cs) ≡ end_sum side cs (meets es d)
shares_is side es cs d =
    sum_map (λ f. cond (leb d (end side f)) f.weight 0) (outcome es) (choices cs)
    ∙ sum_ext (λ ch. cond_mul (leb d (end side (outcome es ch))) (product_by (λ f. f.weight) ch) ∙ rw (end-outcome side es ch)) (choices cs)

pub share_above_is : (es : List Entry) (pss : List (List Parts)) (d : ℕ) → share_above es pss d ≡ draw_sum pss (meets es d)
share_above_is es pss d = sum_ext (λ draw. cond_mul (leb d (Φ es draw)) (draw_weight pss draw)) (draws pss)

-- The denominators differ by m for each component.
share_total_is : (m : ℕ) (cs : List Component) → share_total m cs ≡ m ^ length cs * total cs
share_total_is m [] = rw (pow-zero m) refl
share_total_is m (c ∷ cs) =
    rw (share_total_is m cs, pow-suc m (length cs)) (omega arith)

-- Demand 3, the bounds, as exact fractions: belief / total ≤ share / share_total ≤ plausibility / total.
pub share_bound : (side : Side) (m : ℕ) (es : List Entry) {cs : List Component} {pss : List (List Parts)} → Divides m cs pss → (d : ℕ)
    → Bounding side (shares side d (outcomes es cs) * share_total m cs) (share_above es pss d * total cs)
share_bound side m es {cs} {pss} h d =
    let bound : Bounding side (m ^ length cs * end_sum side cs (meets es d)) (draw_sum pss (meets es d))
    = draws_bound side m h (meets es d) (λ u v k. bounding_mono (λ x. cond (leb d x) 1 0) (test_mono d) (Φ-bounding side k es)) in
    rw (shares_is side es cs d, share_above_is es pss d, share_total_is m cs, mul_comm (draw_sum pss (meets es d)), mul_comm (end_sum side cs (meets es d)), mul_comm (m ^ length cs), mul_assoc (total cs))
    (bounding_mul (total cs) bound)
