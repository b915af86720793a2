-- `collect` puts a list in order and keeps every weighted sum; a list in order is determined by its weights. Assumes nothing.
use Prim.Native.Nat.{ℕ, ◌+◌, ◌*◌, ◌≤◌, Ordering}
use mathlib.Core.Path.{◌≡◌, refl, sym, ap, ap₂, ◌∙◌}
use mathlib.Core.Bool.{Bool, true, false, cond}
use mathlib.Core.List.{List, [], ◌∷◌}
use native.Mathlib.Nat.{le_refl, le_trans, add-mul}
use native.Mathlib.Omega.{arith}
use lib.Dec.{leb}
use borrow.Author.Tests.{eq-eqb, leb-true, le-leb}
use Rattle.theory.specs.Sums.{sum_by, Every}
use Rattle.theory.specs.Focal.{same_ends, weights, Positive}
use Rattle.theory.specs.declared.Focal.{Focal}
use Rattle.theory.specs.Choices.{weight_where, belief, plausibility, weight_at}
use Rattle.theory.specs.Bounds.{Antitone}
use Rattle.theory.specs.Order.{order, Before, InOrder, merged, inserted_at, inserted, collect}
use Rattle.theory.proofs.Sums.{sum_ext, sum_le, cond_mul}
use Rattle.theory.proofs.Order.{Placed, placed, before_trans, before_apart}
use Rattle.theory.proofs.Every.{every_map}

-- A weighted sum: each weight times a number that goes by the interval.
abbrev pub weigh : (ℕ → ℕ → ℕ) → List Focal → ℕ
weigh k = sum_by (λ f. f.weight * k f.low f.high)

pub weigh_insert : (k : ℕ → ℕ → ℕ) (f : Focal) (gs : List Focal) → weigh k (inserted f gs) ≡ f.weight * k f.low f.high + weigh k gs
weigh_insert k f [] = refl
weigh_insert k f (g ∷ gs) = go (placed f g) (weigh_insert k f gs)
  where
    go : {o : Ordering} → Placed f g o → weigh k (inserted f gs) ≡ f.weight * k f.low f.high + weigh k gs
        → weigh k (inserted_at o f g gs (inserted f gs)) ≡ f.weight * k f.low f.high + weigh k (g ∷ gs)
    go (Placed.before p) r = refl
    go (Placed.same p q) r =
        rw (p, q) (omega (arith, add-mul f.weight g.weight (k g.low g.high)))
    go (Placed.after p) r = omega arith

-- Every weighted sum is kept: belief, plausibility, the weight at an interval, and the total with them.
pub weigh-collect : (k : ℕ → ℕ → ℕ) (fs : List Focal) → weigh k (collect fs) ≡ weigh k fs
weigh-collect k [] = refl
weigh-collect k (f ∷ fs) = weigh_insert k f (collect fs) ∙ ap (f.weight * k f.low f.high +◌) (weigh-collect k fs)

pub every_insert : (P : Focal → Type 0) → ((f g : Focal) → P f → P g → P (merged f g))
    → (f : Focal) → P f → {gs : List Focal} → Every P gs → Every P (inserted f gs)
every_insert P m f h Every.none = Every.more h Every.none
every_insert P m f h (Every.more {x = g} {xs = gs} p r) = go (order f g) (every_insert P m f h r)
  where
    go : (o : Ordering) → Every P (inserted f gs) → Every P (inserted_at o f g gs (inserted f gs))
    go Ordering.lt s = Every.more h (Every.more p r)
    go Ordering.eq s = Every.more (m f g h p) r
    go Ordering.gt s = Every.more p s

pub before_all : (f g : Focal) → Before f g → {gs : List Focal} → Every (Before g) gs → Every (Before f) (g ∷ gs)
before_all f g p b = Every.more p (every_map (λ h q. before_trans f g h p q) b)

pub order_insert : (f : Focal) {gs : List Focal} → InOrder gs → InOrder (inserted f gs)
order_insert f InOrder.none = InOrder.more Every.none InOrder.none
order_insert f (InOrder.more {f = g} {fs = gs} b r) = go (placed f g) (order_insert f r)
  where
    go : {o : Ordering} → Placed f g o → InOrder (inserted f gs) → InOrder (inserted_at o f g gs (inserted f gs))
    go (Placed.before p) s = InOrder.more (before_all f g p b) (InOrder.more b r)
    go (Placed.same p q) s = InOrder.more b r
    go (Placed.after p) s = InOrder.more (every_insert (Before g) (λ h j q t. t) f p b) s

pub order_collect : (fs : List Focal) → InOrder (collect fs)
order_collect [] = InOrder.none
order_collect (f ∷ fs) = order_insert f (order_collect fs)

-- What holds of every interval, and of two that become one, holds of each interval that is collected.
pub every_collect : (P : Focal → Type 0) → ((f g : Focal) → P f → P g → P (merged f g)) → {fs : List Focal} → Every P fs → Every P (collect fs)
every_collect P m Every.none = Every.none
every_collect P m (Every.more {x = f} p r) = every_insert P m f p (every_collect P m r)

pub positive_collect : {fs : List Focal} → Every Positive fs → Every Positive (collect fs)
positive_collect = every_collect Positive (λ g h q t. omega arith)

-- The weights that pass a test are never above those that pass a weaker one,
where_mono : {strong weak : ℕ → ℕ → Bool} → ((low high : ℕ) → strong low high ≡ true → weak low high ≡ true)
    → (fs : List Focal) → weight_where strong fs ≤ weight_where weak fs
where_mono {strong} {weak} h = sum_le (λ f. go (strong f.low f.high) f.weight (h f.low f.high))
  where
    go : (a : Bool) (w : ℕ) {b : Bool} → (a ≡ true → b ≡ true) → cond a w 0 ≤ cond b w 0
    go true w k = rw (k refl) (le_refl w)
    go false w k = omega arith

-- nor above the sum of all;
pub where_le : (test : ℕ → ℕ → Bool) (fs : List Focal) → weight_where test fs ≤ weights fs
where_le test = where_mono {strong = test} {weak = λ low high. true} (λ low high e. refl)

-- so a share by one end of the intervals, belief by the low and plausibility by the high, does not rise with the demand.
pub share_antitone : {I : Type 0} (demand_at : I → ℕ) (end : ℕ → ℕ → ℕ) (fs : List Focal)
    → Antitone demand_at (λ i. weight_where (λ low high. leb (demand_at i) (end low high)) fs)
share_antitone demand_at end fs i j h =
    where_mono (λ low high e. le-leb (demand_at i) (end low high) (le_trans h (leb-true (demand_at j) (end low high) e))) fs

-- The weights that pass a test are a weighted sum: so belief, plausibility, the weight at an interval and the sum of the weights are kept.
where_weigh : (test : ℕ → ℕ → Bool) (fs : List Focal) → weight_where test fs ≡ weigh (λ a b. cond (test a b) 1 0) fs
where_weigh test fs = sum_ext (λ f. cond_mul (test f.low f.high) f.weight) fs

pub where_collect : (test : ℕ → ℕ → Bool) (fs : List Focal) → weight_where test (collect fs) ≡ weight_where test fs
where_collect test fs = where_weigh test (collect fs) ∙ (weigh-collect _ fs ∙ sym (where_weigh test fs))

pub belief-collect : (d : ℕ) (fs : List Focal) → belief d (collect fs) ≡ belief d fs
belief-collect d = where_collect (λ low high. leb d low)

pub plausibility-collect : (d : ℕ) (fs : List Focal) → plausibility d (collect fs) ≡ plausibility d fs
plausibility-collect d = where_collect (λ low high. leb d high)

pub weight_at-collect : (a b : ℕ) (fs : List Focal) → weight_at a b (collect fs) ≡ weight_at a b fs
weight_at-collect a b = where_collect (same_ends a b)

pub weights-weigh : (fs : List Focal) → weights fs ≡ weigh (λ a b. 1) fs
weights-weigh = where_weigh (λ low high. true)

pub weights-collect : (fs : List Focal) → weights (collect fs) ≡ weights fs
weights-collect = where_collect (λ low high. true)

pub where_insert : (test : ℕ → ℕ → Bool) (f : Focal) (gs : List Focal)
    → weight_where test (inserted f gs) ≡ cond (test f.low f.high) f.weight 0 + weight_where test gs
where_insert test f gs = where_weigh test (inserted f gs) ∙ (weigh_insert (λ a b. cond (test a b) 1 0) f gs ∙ sym (where_weigh test (f ∷ gs)))

pub weights_insert : (f : Focal) (gs : List Focal) → weights (inserted f gs) ≡ f.weight + weights gs
weights_insert = where_insert (λ low high. true)

-- Where no interval passes a test, no weight does.
pub where_none : (test : ℕ → ℕ → Bool) {fs : List Focal} → Every (λ f. test f.low f.high ≡ false) fs → weight_where test fs ≡ 0
where_none test Every.none = refl
where_none test (Every.more p r) = rw p (omega (arith, where_none test r))

-- A list in order, with no weight 0, is determined by its weights.
at_self : (f : Focal) (fs : List Focal) → weight_at f.low f.high (f ∷ fs) ≡ f.weight + weight_at f.low f.high fs
at_self f fs = rw (eq-eqb f.low f.low refl, eq-eqb f.high f.high refl) refl

at_none : (f : Focal) {gs : List Focal} → Every (Before f) gs → weight_at f.low f.high gs ≡ 0
at_none f b = where_none (same_ends f.low f.high) (every_map (before_apart f) b)

pub canonical : {fs gs : List Focal} → InOrder fs → Every Positive fs → InOrder gs → Every Positive gs
    → ((a b : ℕ) → weight_at a b fs ≡ weight_at a b gs) → fs ≡ gs
canonical InOrder.none Every.none InOrder.none Every.none h = refl
canonical InOrder.none Every.none (InOrder.more {f = g} {fs = gs} b s) (Every.more p q) h =
    absurd (omega (arith, h g.low g.high, at_self g gs))
canonical (InOrder.more {f = f} {fs = fs} b s) (Every.more p q) InOrder.none Every.none h =
    absurd (omega (arith, h f.low f.high, at_self f fs))
canonical (InOrder.more {f = f} {fs = fs} b s) (Every.more p q) (InOrder.more {f = g} {fs = gs} c t) (Every.more u v) h =
    go (placed f g) (λ k. canonical s q t v k)
  where
    go : {o : Ordering} → Placed f g o → (((x y : ℕ) → weight_at x y fs ≡ weight_at x y gs) → fs ≡ gs) → f ∷ fs ≡ g ∷ gs
    go (Placed.before k) r =
        absurd (omega (arith, h f.low f.high, at_self f fs, at_none f (before_all f g k c)))
    go (Placed.after k) r =
        absurd (omega (arith, h g.low g.high, at_self g gs, at_none g (before_all g f k b)))
    go (Placed.same k l) r =
        let w : f.weight ≡ g.weight = omega (arith, h f.low f.high, at_self f fs, at_none f b, ap₂ (λ x y. weight_at x y (g ∷ gs)) k l, at_self g gs, at_none g c) in
        let fg : f ≡ g = λ i. record { low = k i; high = l i; weight = w i } in
        ap₂ ◌∷◌ fg (r (λ x y. omega (arith, h x y, ap (λ (j : Focal). cond (same_ends x y j.low j.high) j.weight 0) fg)))

-- Two lists with the same weighted sums are collected to the same list.
pub same_collect : {fs gs : List Focal} → Every Positive fs → Every Positive gs → ((k : ℕ → ℕ → ℕ) → weigh k fs ≡ weigh k gs) → collect fs ≡ collect gs
same_collect {fs} {gs} p q h =
    canonical (order_collect fs) (positive_collect p) (order_collect gs) (positive_collect q) (λ a b.
    let test : ℕ → ℕ → Bool = same_ends a b in
    where_collect test fs ∙ (where_weigh test fs ∙ (h _ ∙ (sym (where_weigh test gs) ∙ sym (where_collect test gs)))))
