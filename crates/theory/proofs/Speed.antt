-- In a list in order the lows are tried from the front, the fastest first: the first at which the weights passed meet the target is the speed.
-- Assumes nothing.
use Prim.Native.Nat.{ℕ, zero, suc, ◌*◌, ◌≤◌, ◌<◌}
use mathlib.Core.Path.{◌≡◌, refl}
use mathlib.Core.Bool.{Bool, true, false, cond}
use mathlib.Core.List.{List, [], ◌∷◌}
use native.Mathlib.Nat.{le_refl, le_of_eq, le_antisymm}
use native.Mathlib.Omega.{arith}
use lib.Dec.{leb}
use lib.ListN.{length, take, get_or}
use lib.Seq.{take-length}
use borrow.Author.Tests.{leb-true, leb-false, le-leb, lt-leb}
use Rattle.theory.specs.Limits.{thousandths}
use Rattle.theory.specs.Sums.{greatest_by, Every}
use Rattle.theory.specs.Focal.{no_focal, weights}
use Rattle.theory.specs.declared.Focal.{Focal}
use Rattle.theory.specs.Choices.{belief}
use Rattle.theory.specs.Order.{InOrder}
use Rattle.theory.specs.Speed.{Meets, meets, GreatestDemand, low_if_met, speed_for}
use Rattle.theory.proofs.Every.{every_map, every_all, index_of_every}
use Rattle.theory.proofs.Order.{before_low}
use Rattle.theory.proofs.Collect.{where_le}

-- ---- the greatest of a list

module _ {A : Type 0} (f : A → ℕ) where
  greatest_most : (m : ℕ) {xs : List A} → Every (λ x. f x ≤ m) xs → greatest_by f xs ≤ m
  greatest_most m Every.none = omega arith
  greatest_most m (Every.more h r) = omega (arith, h, greatest_most m r)

  greatest_least : (z : A) (xs : List A) (i : ℕ) → i < length xs → f (get_or xs i z) ≤ greatest_by f xs
  greatest_least z [] i h = absurd (omega arith)
  greatest_least z (x ∷ xs) zero h = omega arith
  greatest_least z (x ∷ xs) (suc i) h = omega (arith, greatest_least z xs i (omega arith))

-- ---- belief in a list in order

abbrev pub low_at : List Focal → ℕ → ℕ
low_at l i = (get_or l i no_focal).low

-- No weight counts where every low is below the demand.
belief_none : (d : ℕ) {l : List Focal} → Every (λ f. f.low < d) l → belief d l ≡ 0
belief_none d Every.none = refl
belief_none d (Every.more {x = f} h r) = rw (lt-leb d f.low h) (omega (arith, belief_none d r))

-- Each interval up to place i counts at the low of interval i,
belief_up_to : {l : List Focal} (i : ℕ) → InOrder l → i < length l → weights (take (suc i) l) ≤ belief (low_at l i) l
belief_up_to i InOrder.none h = absurd (omega arith)
belief_up_to zero (InOrder.more {f = f} {fs = fs} b r) h = rw (le-leb f.low f.low (le_refl f.low)) (omega arith)
belief_up_to (suc i) (InOrder.more {f = f} {fs = fs} b r) h =
    let p : low_at fs i ≤ f.low = before_low f (get_or fs i no_focal) (index_of_every no_focal b i (omega arith)) in
    rw (le-leb (low_at fs i) f.low p) (omega (arith, belief_up_to i r (omega arith)))

-- and above that low none from place i on does.
belief_above : {l : List Focal} (i d : ℕ) → InOrder l → i < length l → low_at l i < d → belief d l ≤ weights (take i l)
belief_above i d InOrder.none h k = absurd (omega arith)
belief_above zero d (InOrder.more {f = f} {fs = fs} b r) h k =
    le_of_eq (belief_none d {l = f ∷ fs} (Every.more k (every_map (λ g p. omega (arith, before_low f g p)) b)))
belief_above (suc i) d (InOrder.more {f = f} {fs = fs} b r) h k =
    omega (arith, belief_above i d r (omega arith) k, where_le (λ low high. leb d low) (f ∷ []))

-- ---- the search

module _ (target whole : ℕ) where
  abbrev tried : List Focal → Focal → ℕ
  tried = low_if_met target whole

  -- Where all demands that meet the target are at most m, so is each low that counts.
  tried_most : (l : List Focal) (m : ℕ) → ((d : ℕ) → Meets target whole (belief d l) → d ≤ m) → (f : Focal) → tried l f ≤ m
  tried_most l m h f = go (meets target whole (belief f.low l)) refl
    where
      go : (b : Bool) → meets target whole (belief f.low l) ≡ b → cond b f.low 0 ≤ m
      go true e = h f.low (leb-true _ _ e)
      go false e = omega arith

  -- The speed is not above all lows.
  pub speed_most : (m : ℕ) {l : List Focal} → Every (λ f. f.low ≤ m) l → speed_for target whole l ≤ m
  speed_most m {l} h = greatest_most (tried l) m (every_map (λ f k. at_most (meets target whole (belief f.low l)) k) h)
    where
      at_most : (b : Bool) {x : ℕ} → x ≤ m → cond b x 0 ≤ m
      at_most true k = k
      at_most false k = omega arith

  -- The weights up to place i meet the target, and those in front of it do not.
  pub record Found (l : List Focal) (i : ℕ) : Type 0 where
    pub inside : i < length l
    pub met : Meets target whole (weights (take (suc i) l))
    pub before : Meets target whole (weights (take i l)) → ⊥

  module _ {l : List Focal} (o : InOrder l) {i : ℕ} (found : Found l i) where
    pub found_greatest : GreatestDemand target whole (λ d. belief d l) (low_at l i)
    found_greatest = record {
      met = omega (arith, found.met, belief_up_to i o found.inside);
      greatest = λ d m. go d m (leb d (low_at l i)) refl;
    }
      where
        go : (d : ℕ) → Meets target whole (belief d l) → (b : Bool) → leb d (low_at l i) ≡ b → d ≤ low_at l i
        go d m true e = leb-true d (low_at l i) e
        go d m false e = absurd (found.before (omega (arith, m, belief_above i d o found.inside (leb-false d (low_at l i) e))))

    -- The low of interval i is the speed.
    pub found_speed : low_at l i ≡ speed_for target whole l
    found_speed =
        let counts : tried l (get_or l i no_focal) ≡ low_at l i = rw (le-leb _ _ found_greatest.met) in
        le_antisymm (omega (arith, counts, greatest_least (tried l) no_focal l i found.inside))
        (greatest_most (tried l) (low_at l i) (every_all (tried_most l (low_at l i) found_greatest.greatest) l))

  -- Where all weights together do not meet the target, there is no speed.
  pub no_speed : (l : List Focal) → (Meets target whole (weights l) → ⊥) → 0 ≡ speed_for target whole l
  no_speed l h =
      let none : (d : ℕ) → Meets target whole (belief d l) → d ≤ 0 = λ d m. absurd (h (omega (arith, m, where_le (λ low high. leb d low) l))) in
      le_antisymm (omega arith) (greatest_most (tried l) 0 (every_all (tried_most l 0 none) l))

  -- Where the first n weights together meet a target above 0, some place is found.
  find : 0 < target * whole → (l : List Focal) (n : ℕ) → n ≤ length l → Meets target whole (weights (take n l)) → (i : ℕ) × Found l i
  find p l zero h m = absurd (omega arith)
  find p l (suc n) h m = go (meets target whole (weights (take n l))) refl (find p l n (omega arith))
    where
      go : (b : Bool) → meets target whole (weights (take n l)) ≡ b → (Meets target whole (weights (take n l)) → (i : ℕ) × Found l i) → (i : ℕ) × Found l i
      go true e r = r (leb-true _ _ e)
      go false e r = (n, record { inside = h; met = m; before = λ k. omega (arith, k, leb-false (target * whole) (thousandths * weights (take n l)) e) })

  -- The speed of a list in order is the greatest demand that meets the target, and no other number is.
  pub speed_greatest : 0 < target * whole → {l : List Focal} → InOrder l → Meets target whole (weights l)
      → GreatestDemand target whole (λ d. belief d l) (speed_for target whole l)
  speed_greatest p {l} o h = let (i, found) = find p l (length l) (le_refl (length l)) (rw (take-length l) h) in rw (← found_speed o found) (found_greatest o found)

  pub greatest_one : {belief_at : ℕ → ℕ} {v w : ℕ} → GreatestDemand target whole belief_at v → GreatestDemand target whole belief_at w → v ≡ w
  greatest_one p q = le_antisymm (q.greatest _ p.met) (p.greatest _ q.met)
