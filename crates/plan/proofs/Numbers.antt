-- The number that a list of tests answers: that of the first broken one, or 0 where none is. Assumes nothing.
use Prim.Native.Nat.{ℕ, ◌≤◌, ◌<◌}
use mathlib.Core.Path.{◌≡◌, refl, sym}
use mathlib.Core.Logic.{◌↔◌}
use mathlib.Core.Bool.{Bool, true, false, cond}
use mathlib.Core.List.{List, [], ◌∷◌, ◌++◌}
use native.Mathlib.Decide.{ℕ_discrete}
use native.Mathlib.Omega.{arith}
use lib.Dec.{eqb}
use borrow.Author.Tests.{eq-eqb, ne_eqb}
use Rattle.theory.specs.Sums.{Every, none, more}
use Rattle.theory.proofs.Every.{every_map}
use Rattle.plan.specs.Tests.{Test, first_broken, outside, any_of, Unbroken, First, here, later}
use Rattle.plan.proofs.Tests.{every_failed, within, any_none}

pub none_broken : {ts : List Test} → Every Unbroken ts → first_broken ts ≡ 0
none_broken none = refl
none_broken (more e es) = rw e (none_broken es)

all_unbroken : (ts : List Test) → Every (λ t. 0 < t.number) ts → first_broken ts ≡ 0 → Every Unbroken ts
all_unbroken [] none e = none
all_unbroken (t ∷ ts) (more h hs) e = go t.broken refl (all_unbroken ts hs) e
  where
    go : (b : Bool) → t.broken ≡ b → (first_broken ts ≡ 0 → Every Unbroken ts) → cond b t.number (first_broken ts) ≡ 0 → Every Unbroken (t ∷ ts)
    go true d f e = absurd (omega arith)
    go false d f e = more d (f e)

first_is : {ts : List Test} {k : ℕ} → First ts k → first_broken ts ≡ k
first_is (here q e) = rw q e
first_is (later q r) = rw q (first_is r)

is_first : (ts : List Test) (k : ℕ) → 0 < k → first_broken ts ≡ k → First ts k
is_first [] k h e = absurd (omega arith)
is_first (t ∷ ts) k h e = go t.broken refl e (is_first ts k h)
  where
    go : (b : Bool) → t.broken ≡ b → first_broken (t ∷ ts) ≡ k → (first_broken ts ≡ k → First ts k) → First (t ∷ ts) k
    go true q e rest = here q (rw q at e)
    go false q e rest = later q (rest (rw q at e))

-- Tests whose numbers are 1 to n, which is seen by a test of all.
module _ (n : ℕ) (ts : List Test) (e : any_of (λ t. outside 1 n t.number) ts ≡ false) where
  numbers : Every (λ t. (1 ≤ t.number) × (t.number ≤ n)) ts
  numbers = every_failed (λ t. outside 1 n t.number) ts (λ t h. within 1 n t.number h) e

  pub no_number : first_broken ts ≡ 0 → Every Unbroken ts
  no_number = all_unbroken ts (every_map (λ t h. h.0) numbers)

  pub accepted_by : (first_broken ts ≡ 0) ↔ Every Unbroken ts
  accepted_by = (no_number, none_broken)

-- The first broken test is the first of a longer list too.
pub first_in_front : {ts : List Test} {k : ℕ} → First ts k → (us : List Test) → First (ts ++ us) k
first_in_front (here q e) us = here q e
first_in_front (later q r) us = later q (first_in_front r us)

pub first_behind : {ts us : List Test} {k : ℕ} → Every Unbroken ts → First us k → First (ts ++ us) k
first_behind none f = f
first_behind (more q r) f = later q (first_behind r f)

-- A number that no test has is not answered.
pub number_never : (bad : ℕ → Bool) → bad 0 ≡ false → (ts : List Test) → any_of (λ t. bad t.number) ts ≡ false → bad (first_broken ts) ≡ false
number_never bad z [] e = z
number_never bad z (t ∷ ts) e = let (h, r) = any_none (λ u. bad u.number) t ts e in go t.broken h (number_never bad z ts r)
  where
    go : (b : Bool) → bad t.number ≡ false → bad (first_broken ts) ≡ false → bad (cond b t.number (first_broken ts)) ≡ false
    go true h r = h
    go false h r = r

pub refused_by : (ts : List Test) (k : ℕ) → 0 < k → (first_broken ts ≡ k) ↔ First ts k
refused_by ts k h = (is_first ts k h, first_is)

-- A number in the first list decides; where there is none, the second list does.
pub first_found : (ts us : List Test) → (first_broken ts ≡ 0 → ⊥) → first_broken (ts ++ us) ≡ first_broken ts
first_found [] us h = absurd (h refl)
first_found (t ∷ ts) us h = go t.broken h (first_found ts us)
  where
    go : (b : Bool) → (cond b t.number (first_broken ts) ≡ 0 → ⊥) → ((first_broken ts ≡ 0 → ⊥) → first_broken (ts ++ us) ≡ first_broken ts)
        → cond b t.number (first_broken (ts ++ us)) ≡ cond b t.number (first_broken ts)
    go true h f = refl
    go false h f = f h

pub first_none : {ts : List Test} (us : List Test) → Every Unbroken ts → first_broken (ts ++ us) ≡ first_broken us
first_none us none = refl
first_none us (more e es) = rw e (first_none us es)

-- Both in one: the second list decides exactly where the first has no number.
pub first_then : (n : ℕ) (ts us : List Test) → any_of (λ t. outside 1 n t.number) ts ≡ false
    → cond (eqb (first_broken ts) 0) (first_broken us) (first_broken ts) ≡ first_broken (ts ++ us)
first_then n ts us e = elim (ℕ_discrete (first_broken ts) 0) [
  | yes z ↦ rw (eq-eqb (first_broken ts) 0 z) (sym (first_none us (no_number n ts e z)))
  | no z ↦ rw (ne_eqb (first_broken ts) 0 z) (sym (first_found ts us z))
]
