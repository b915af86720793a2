-- The structure function is monotone: at no lower speeds of the components the drive is no slower. Assumes nothing.
use Prim.Native.Nat.{ℕ, zero, suc, ◌+◌, ◌*◌, ◌≤◌}
use mathlib.Core.Path.{◌≡◌, refl}
use mathlib.Core.Bool.{Bool, true, false, cond}
use mathlib.Core.List.{List, [], ◌∷◌, map, Forall₂}
use native.Mathlib.Nat.{le_refl, le_trans, add-le-add, mul-le-mul_left}
use native.Mathlib.Omega.{arith}
use lib.Dec.{leb}
use lib.ListN.{get_or}
use borrow.Author.Tests.{leb-true, le-leb}
use Rattle.theory.specs.Limits.{top_speed}
use Rattle.theory.specs.Sums.{sum_by}
use Rattle.theory.specs.Focal.{Inside}
use Rattle.theory.specs.declared.Focal.{Focal}
use Rattle.theory.specs.Joins.{joined}
use Rattle.theory.specs.declared.Entry.{Entry}
use Rattle.theory.specs.declared.Entry.TheVariants.{Component as component, Join as join}
use Rattle.theory.specs.Structure.{step, run, Φ}
use Rattle.theory.specs.declared.Join.{Join}
use Rattle.theory.specs.declared.Join.TheVariants.{Series, Shared, Spare}

-- Only these two laws know the three joins: what is joined grows with its parts, and stays within every bound from 4,095 on that they keep.
pub joined_mono : (op : Join) {a b c d : ℕ} → a ≤ b → c ≤ d → joined op a c ≤ joined op b d
joined_mono Series h k = omega arith
joined_mono Shared h k = omega arith
joined_mono Spare h k = omega arith

pub joined_within : (op : Join) {top a b : ℕ} → top_speed ≤ top → a ≤ top → b ≤ top → joined op a b ≤ top
joined_within Series t h k = omega arith
joined_within Shared t h k = omega arith
joined_within Spare t h k = omega arith

pub test_mono : (d a b : ℕ) → a ≤ b → cond (leb d a) 1 0 ≤ cond (leb d b) 1 0
test_mono d a b h = go (leb d a) refl
  where
    go : (t : Bool) → leb d a ≡ t → cond t 1 0 ≤ cond (leb d b) 1 0
    go true e = rw (le-leb d b (omega (arith, leb-true d a e))) (le_refl 1)
    go false e = omega arith

-- What is said of the lows from below and of the highs from above is said once, over the side.
pub data Side : Type 0 where
  lower : Side
  upper : Side

abbrev pub end : Side → Focal → ℕ
end lower f = f.low
end upper f = f.high

-- Of two numbers the first bounds the second from that side.
pub data Bounding : Side → ℕ → ℕ → Type 0 where
  least : {a b : ℕ} → a ≤ b → Bounding lower a b
  greatest : {a b : ℕ} → b ≤ a → Bounding upper a b

pub at_least : {a b : ℕ} → Bounding lower a b → a ≤ b
at_least (least h) = h

pub at_most : {a b : ℕ} → Bounding upper a b → b ≤ a
at_most (greatest h) = h

pub bounding_refl : (side : Side) (a : ℕ) → Bounding side a a
bounding_refl lower a = least (le_refl a)
bounding_refl upper a = greatest (le_refl a)

pub bounding_trans : {side : Side} {a b c : ℕ} → Bounding side a b → Bounding side b c → Bounding side a c
bounding_trans (least h) (least k) = least (le_trans h k)
bounding_trans (greatest h) (greatest k) = greatest (le_trans k h)

-- A function that grows with what it is given keeps the bound.
pub bounding_mono : (φ : ℕ → ℕ) → ((a b : ℕ) → a ≤ b → φ a ≤ φ b) → {side : Side} {a b : ℕ} → Bounding side a b → Bounding side (φ a) (φ b)
bounding_mono φ mono {a = a} {b = b} (least h) = least (mono a b h)
bounding_mono φ mono {a = a} {b = b} (greatest h) = greatest (mono b a h)

bounding-mono₂ : (φ : ℕ → ℕ → ℕ) → ((a b c d : ℕ) → a ≤ b → c ≤ d → φ a c ≤ φ b d) → {side : Side} {a b c d : ℕ}
    → Bounding side a b → Bounding side c d → Bounding side (φ a c) (φ b d)
bounding-mono₂ φ mono (least h) (least k) = least (mono _ _ _ _ h k)
bounding-mono₂ φ mono (greatest h) (greatest k) = greatest (mono _ _ _ _ h k)

pub bounding_add : {side : Side} {a b c d : ℕ} → Bounding side a b → Bounding side c d → Bounding side (a + c) (b + d)
bounding_add = bounding-mono₂ ◌+◌ (λ a b c d. add-le-add)

pub bounding_mul : {side : Side} (k : ℕ) {a b : ℕ} → Bounding side a b → Bounding side (k * a) (k * b)
bounding_mul k = bounding_mono (k *◌) (λ a b. mul-le-mul_left k)

-- An end bounds what lies inside, and lies inside itself.
pub end_bounds : (side : Side) (f : Focal) (s : ℕ) → Inside f s → Bounding side (end side f) s
end_bounds lower f s h = least h.0
end_bounds upper f s h = greatest h.1

pub end_inside : (side : Side) (f : Focal) → f.low ≤ f.high → Inside f (end side f)
end_inside lower f h = (le_refl f.low, h)
end_inside upper f h = (h, le_refl f.high)

-- Rows of speeds are bounded speed by speed.
module _ (side : Side) where
  abbrev pub BoundingAll : List ℕ → List ℕ → Type 0
  BoundingAll = Forall₂ (Bounding side)

  pub all_refl : (xs : List ℕ) → BoundingAll xs xs
  all_refl [] = Forall₂.nil
  all_refl (x ∷ xs) = Forall₂.cons (bounding_refl side x) (all_refl xs)

  get_or_bounding : {xs ys : List ℕ} → BoundingAll xs ys → (i : ℕ) → Bounding side (get_or xs i 0) (get_or ys i 0)
  get_or_bounding Forall₂.nil i = bounding_refl side 0
  get_or_bounding (Forall₂.cons h r) zero = h
  get_or_bounding (Forall₂.cons h r) (suc i) = get_or_bounding r i

  pub ends_bound : {ch : List Focal} {v : List ℕ} → Forall₂ Inside ch v → BoundingAll (map (end side) ch) v
  ends_bound Forall₂.nil = Forall₂.nil
  ends_bound (Forall₂.cons {a = f} {b = s} h r) = Forall₂.cons (end_bounds side f s h) (ends_bound r)

  pub sum_bounding : {A : Type 0} {f g : A → ℕ} → ((x : A) → Bounding side (f x) (g x)) → (xs : List A) → Bounding side (sum_by f xs) (sum_by g xs)
  sum_bounding h [] = bounding_refl side 0
  sum_bounding h (x ∷ xs) = bounding_add (h x) (sum_bounding h xs)

  module _ {u v : List ℕ} (h : BoundingAll u v) where
    step_bounding : (e : Entry) {p q : List ℕ} → BoundingAll p q → BoundingAll (step (λ i. get_or u i 0) joined e p) (step (λ i. get_or v i 0) joined e q)
    step_bounding (component i) r = Forall₂.cons (get_or_bounding h i) r
    step_bounding (join op) Forall₂.nil = Forall₂.nil
    step_bounding (join op) (Forall₂.cons k Forall₂.nil) = Forall₂.cons k Forall₂.nil
    step_bounding (join op) (Forall₂.cons k (Forall₂.cons l r)) = Forall₂.cons (bounding-mono₂ (joined op) (λ a b c d. joined_mono op) l k) r

    run_bounding : (es : List Entry) {p q : List ℕ} → BoundingAll p q → BoundingAll (run (λ i. get_or u i 0) joined es p) (run (λ i. get_or v i 0) joined es q)
    run_bounding [] r = r
    run_bounding (e ∷ es) r = run_bounding es (step_bounding e r)

    pub Φ-bounding : (es : List Entry) → Bounding side (Φ es u) (Φ es v)
    Φ-bounding es = get_or_bounding (run_bounding es Forall₂.nil) 0
