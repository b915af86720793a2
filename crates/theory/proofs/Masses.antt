-- What a component's mass assignment has of what it lists. Assumes nothing.
use Prim.Native.Nat.{ℕ, suc, ◌+◌, ◌≤◌, ◌<◌}
use mathlib.Core.Path.{◌≡◌, refl, sym, ap, ◌∙◌}
use mathlib.Core.Bool.{Bool, true, false, cond, ◌&&◌}
use mathlib.Core.Logic.{◌⊎◌, inl, inr}
use mathlib.Core.List.{List, [], ◌∷◌}
use native.Mathlib.Omega.{arith}
use lib.Dec.{ltb, eqb}
use lib.ListN.{length}
use borrow.Author.Tests.{ltb-true, ltb-false, lt-ltb, le-ltb, eqb-true, eqb-false}
use Rattle.theory.specs.Sums.{Every}
use Rattle.theory.specs.Limits.{top_speed, most_held, most_masses}
use Rattle.theory.specs.Focal.{same_ends, focal_at, listed, weights, InRange, Positive}
use Rattle.theory.specs.declared.Focal.{Focal}
use Rattle.theory.specs.Order.{merged, inserted, collect}
use Rattle.theory.specs.Masses.{rest, rest_focal, added_at, added, masses, times_at, Distinct}
use Rattle.theory.specs.Choices.{weight_where}
use Rattle.theory.specs.Rest.{RestAdded}
use Rattle.theory.specs.declared.Component.{Component}
use Rattle.theory.proofs.Sums.{length_below}
use Rattle.theory.proofs.Collect.{where_insert, where_collect}
use Rattle.theory.proofs.Lists.{insert_merged, insert_commute}

-- ---- one interval more

-- What the test of sameness says.
pub data Compared (a b : ℕ) (g : Focal) : Bool → Type 0 where
  same : a ≡ g.low → b ≡ g.high → Compared a b g true
  apart : (a ≡ g.low → b ≡ g.high → ⊥) → Compared a b g false

pub compared : (a b : ℕ) (g : Focal) → Compared a b g (same_ends a b g.low g.high)
compared a b g = go _ refl _ refl
  where
    go : (x : Bool) → eqb a g.low ≡ x → (y : Bool) → eqb b g.high ≡ y → Compared a b g (x && y)
    go true e true h = same (eqb-true _ _ e) (eqb-true _ _ h)
    go true e false h = apart (λ p q. eqb-false _ _ h q)
    go false e y h = apart (λ p q. eqb-false _ _ e p)

-- Where f is added to an equal interval no count changes; otherwise f itself, which was not there, is there once.
times_added : (a b : ℕ) (f : Focal) (gs : List Focal)
    → (times_at a b (added f gs) ≡ times_at a b gs) ⊎ ((times_at f.low f.high gs ≡ 0) × (times_at a b (added f gs) ≡ times_at a b (f ∷ gs)))
times_added a b f [] = inr (refl, refl)
times_added a b f (g ∷ gs) = go (compared f.low f.high g) (times_added a b f gs)
  where
    go : {t : Bool} → Compared f.low f.high g t
        → (times_at a b (added f gs) ≡ times_at a b gs) ⊎ ((times_at f.low f.high gs ≡ 0) × (times_at a b (added f gs) ≡ times_at a b (f ∷ gs)))
        → (times_at a b (added_at t f g gs (added f gs)) ≡ times_at a b (g ∷ gs))
        ⊎ ((cond t 1 0 + times_at f.low f.high gs ≡ 0) × (times_at a b (added_at t f g gs (added f gs)) ≡ times_at a b (f ∷ g ∷ gs)))
    go (same p q) r = inl refl
    go (apart h) (inl e) = inl (ap (cond (same_ends a b g.low g.high) 1 0 +◌) e)
    go (apart h) (inr (z, e)) = inr (omega arith, omega arith)

distinct_added : (f : Focal) (gs : List Focal) → Distinct gs → Distinct (added f gs)
distinct_added f gs h a b = go (times_added a b f gs) (compared a b f)
  where
    go : {t : Bool} → (times_at a b (added f gs) ≡ times_at a b gs) ⊎ ((times_at f.low f.high gs ≡ 0) × (times_at a b (added f gs) ≡ cond t 1 0 + times_at a b gs))
        → Compared a b f t → times_at a b (added f gs) ≤ 1
    go (inl e) c = omega (arith, h a b)
    go (inr (z, e)) (same p q) = omega (arith, rw (← p, ← q) at z)
    go (inr (z, e)) (apart k) = omega (arith, h a b)

-- Collected, it is an insertion: so every sum that goes by the interval has the new weight besides.
pub collect-added : (f : Focal) (gs : List Focal) → collect (added f gs) ≡ inserted f (collect gs)
collect-added f [] = refl
collect-added f (g ∷ gs) = go (compared f.low f.high g) (collect-added f gs)
  where
    go : {t : Bool} → Compared f.low f.high g t → collect (added f gs) ≡ inserted f (collect gs)
        → collect (added_at t f g gs (added f gs)) ≡ inserted f (collect (g ∷ gs))
    go (same p q) r = sym (insert_merged f g p q (collect gs))
    go (apart h) r = ap (inserted g) r ∙ insert_commute g f (collect gs)

where_added : (test : ℕ → ℕ → Bool) (f : Focal) (gs : List Focal)
    → weight_where test (added f gs) ≡ cond (test f.low f.high) f.weight 0 + weight_where test gs
where_added test f gs =
    sym (where_collect test (added f gs))
    ∙ (ap (weight_where test) (collect-added f gs) ∙ (where_insert test f (collect gs) ∙ ap (cond (test f.low f.high) f.weight 0 +◌) (where_collect test gs)))

every_added : (P : Focal → Type 0) → ((f g : Focal) → P f → P g → P (merged f g)) → (f : Focal) → P f → {gs : List Focal} → Every P gs → Every P (added f gs)
every_added P m f h Every.none = Every.more h Every.none
every_added P m f h (Every.more {x = g} {xs = gs} p r) = go (same_ends f.low f.high g.low g.high) (every_added P m f h r)
  where
    go : (t : Bool) → Every P (added f gs) → Every P (added_at t f g gs (added f gs))
    go true s = Every.more (m f g h p) r
    go false s = Every.more p s

length-added : (f : Focal) (gs : List Focal) → length (added f gs) ≤ suc (length gs)
length-added f [] = omega arith
length-added f (g ∷ gs) = go (same_ends f.low f.high g.low g.high) (length-added f gs)
  where
    go : (t : Bool) → length (added f gs) ≤ suc (length gs) → length (added_at t f g gs (added f gs)) ≤ suc (suc (length gs))
    go true h = omega arith
    go false h = omega arith

-- ---- what is listed, with the rest

module _ (c : Component) where
  pub listed-count : length (listed c) ≡ c.count
  listed-count = length_below (focal_at c) c.count

  -- There is a rest, or there is none.
  pub some_rest : weights (listed c) < c.total → masses c ≡ added (rest_focal c) (listed c)
  some_rest h = rw (lt-ltb (weights (listed c)) c.total h)

  pub no_rest : c.total ≤ weights (listed c) → masses c ≡ listed c
  no_rest h = rw (le-ltb (weights (listed c)) c.total h)

  by_rest : (P : List Focal → Type 0) → (0 < rest c → P (added (rest_focal c) (listed c))) → (rest c ≡ 0 → P (listed c)) → P (masses c)
  by_rest P f g = go (ltb (weights (listed c)) c.total) refl
    where
      go : (t : Bool) → ltb (weights (listed c)) c.total ≡ t → P (cond t (added (rest_focal c) (listed c)) (listed c))
      go true e = f (omega (arith, ltb-true (weights (listed c)) c.total e))
      go false e = g (omega (arith, ltb-false (weights (listed c)) c.total e))

  pub range_masses : Every InRange (listed c) → Every InRange (masses c)
  range_masses h = by_rest (Every InRange) (λ r. every_added InRange (λ f g p q. record { low_high = q.low_high; below = q.below }) (rest_focal c) (record { low_high = omega arith; below = omega arith }) h) (λ z. h)

  pub positive_masses : Every Positive (listed c) → Every Positive (masses c)
  positive_masses h = by_rest (Every Positive) (λ r. every_added Positive (λ f g p q. omega arith) (rest_focal c) r h) (λ z. h)

  pub distinct_masses : Distinct (listed c) → Distinct (masses c)
  distinct_masses h = by_rest Distinct (λ r. distinct_added (rest_focal c) (listed c) h) (λ z. h)

  pub length-masses : c.count ≤ most_held → length (masses c) ≤ most_masses
  length-masses h =
      by_rest (λ l. length l ≤ most_masses) (λ r. omega (arith, listed-count, length-added (rest_focal c) (listed c))) (λ z. omega (arith, listed-count))

  -- Every sum that goes by the interval has the rest besides.
  where_masses : (test : ℕ → ℕ → Bool) → weight_where test (masses c) ≡ cond (test 0 top_speed) (rest c) 0 + weight_where test (listed c)
  where_masses test =
      by_rest (λ l. weight_where test l ≡ cond (test 0 top_speed) (rest c) 0 + weight_where test (listed c))
      (λ r. where_added test (rest_focal c) (listed c)) (λ z. rw z (go (test 0 top_speed)))
    where
      go : (t : Bool) → weight_where test (listed c) ≡ cond t 0 0 + weight_where test (listed c)
      go true = omega arith
      go false = omega arith

  pub balanced_masses : weights (listed c) ≤ c.total → weights (masses c) ≡ c.total
  balanced_masses h = where_masses (λ low high. true) ∙ omega arith

  pub rest_added : RestAdded c
  rest_added = record {
    whole = λ e. no_rest (omega arith);
    weight_added = λ a b. where_masses (same_ends a b) ∙ omega arith;
  }
