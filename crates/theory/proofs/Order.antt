-- The order of intervals. What goes by its direction: `placed` and `before_low` here, the search for a speed (Speed), the keys of records.
-- Assumes nothing.
use Prim.Native.Nat.{ℕ, ◌≤◌, ◌<◌, compare, Ordering}
use mathlib.Core.Path.{◌≡◌, refl, sym, ap}
use mathlib.Core.Bool.{false}
use mathlib.Core.Logic.{inl, inr}
use native.Mathlib.Omega.{arith}
use lib.Dec.{is_le, compare_is_eq}
use borrow.Author.Tests.{leb-true, leb-false, eqb-true, eqb-false, eq-eqb, ne_eqb}
use Rattle.theory.specs.Focal.{same_ends}
use Rattle.theory.specs.declared.Focal.{Focal}
use Rattle.theory.specs.Order.{lexically, order, Before}

compare_lt : (a b : ℕ) → compare a b ≡ Ordering.lt → a < b
compare_lt a b e =
    let p : a ≤ b = leb-true a b (ap is_le e) in
    let q : a ≡ b → ⊥ = eqb-false a b (ap compare_is_eq e) in
    omega arith

compare_eq : (a b : ℕ) → compare a b ≡ Ordering.eq → a ≡ b
compare_eq a b e = eqb-true a b (ap compare_is_eq e)

compare_gt : (a b : ℕ) → compare a b ≡ Ordering.gt → b < a
compare_gt a b e = leb-false a b (ap is_le e)

-- What each answer of `order` says.
pub data Placed (f g : Focal) : Ordering → Type 0 where
  before : Before f g → Placed f g Ordering.lt
  same : f.low ≡ g.low → f.high ≡ g.high → Placed f g Ordering.eq
  after : Before g f → Placed f g Ordering.gt

pub placed : (f g : Focal) → Placed f g (order f g)
placed f g = go _ refl _ refl
  where
    go : (o : Ordering) → compare g.low f.low ≡ o → (p : Ordering) → compare g.high f.high ≡ p → Placed f g (lexically o p)
    go Ordering.lt e p k = before (inl (compare_lt _ _ e))
    go Ordering.gt e p k = after (inl (compare_gt _ _ e))
    go Ordering.eq e Ordering.lt k = before (inr (compare_eq _ _ e, compare_lt _ _ k))
    go Ordering.eq e Ordering.eq k = same (omega (arith, compare_eq _ _ e)) (omega (arith, compare_eq _ _ k))
    go Ordering.eq e Ordering.gt k = after (inr (sym (compare_eq _ _ e), compare_gt _ _ k))

pub before_trans : (f g h : Focal) → Before f g → Before g h → Before f h
before_trans f g h (inl p) (inl q) = inl (omega arith)
before_trans f g h (inl p) (inr q) = inl (omega arith)
before_trans f g h (inr p) (inl q) = inl (omega arith)
before_trans f g h (inr p) (inr q) = inr (omega arith)

pub before_same : (f g h : Focal) → f.low ≡ h.low → f.high ≡ h.high → Before f g → Before h g
before_same f g h p q (inl b) = inl (omega arith)
before_same f g h p q (inr b) = inr (omega arith)

-- The earlier of two intervals has the greater low, or the same.
pub before_low : (f g : Focal) → Before f g → g.low ≤ f.low
before_low f g (inl p) = omega arith
before_low f g (inr p) = omega arith

-- At most one of the three holds, so `order` says which.
never : (f g : Focal) → f.low ≡ g.low → f.high ≡ g.high → Before f g → ⊥
never f g p q (inl h) = omega arith
never f g p q (inr h) = omega arith

placed_unique : (f g : Focal) {o p : Ordering} → Placed f g o → Placed f g p → o ≡ p
placed_unique f g (before b) (before c) = refl
placed_unique f g (before b) (same p q) = absurd (never f g p q b)
placed_unique f g (before b) (after c) = absurd (never f f refl refl (before_trans f g f b c))
placed_unique f g (same p q) (before b) = absurd (never f g p q b)
placed_unique f g (same p q) (same r s) = refl
placed_unique f g (same p q) (after b) = absurd (never g f (sym p) (sym q) b)
placed_unique f g (after b) (before c) = absurd (never f f refl refl (before_trans f g f c b))
placed_unique f g (after b) (same p q) = absurd (never g f (sym p) (sym q) b)
placed_unique f g (after b) (after c) = refl

pub order_is : (f g : Focal) {o : Ordering} → Placed f g o → order f g ≡ o
order_is f g = placed_unique f g (placed f g)

pub order_before : (f g : Focal) → Before f g → order f g ≡ Ordering.lt
order_before f g b = order_is f g (before b)

-- Of two intervals one of which comes before the other, the test of sameness is false.
pub before_apart : (f g : Focal) → Before f g → same_ends f.low f.high g.low g.high ≡ false
before_apart f g (inl p) = rw (ne_eqb f.low g.low (omega arith)) refl
before_apart f g (inr p) = rw (eq-eqb f.low g.low (omega arith), ne_eqb f.high g.high (omega arith)) refl
