-- What it means that no element of a list passes a test. Assumes nothing.
use borrow.Author.Tests.{ltb-true, ltb-false, lt-ltb, le-ltb}
use mathlib.Core.Path.{◌≡◌, refl, sym, ap, subst, ◌∙◌}
use mathlib.Core.Logic.{◌↔◌, ◌⊎◌, inl, inr}
use mathlib.Core.Bool.{Bool, true, false, ◌||◌, or-false, or-true, or_assoc}
use mathlib.Core.List.{List, [], ◌∷◌, map}
use Prim.Native.Nat.{ℕ, zero, suc, ◌+◌, ◌≤◌, ◌<◌}
use native.Mathlib.Nat.{add-zero, zero-add, add-suc, suc-add}
use native.Mathlib.Numerals.{add-one}
use native.Mathlib.Decide.{ℕ_discrete}
use native.Mathlib.Omega.{arith}
use lib.Dec.{ltb}
use Rattle.std.specs.List.{list_any, range_with_len}
use Rattle.block.proofs.Laws.{neither}
use Rattle.theory.specs.Sums.{count_from, Every, none, more}
use Rattle.plan.specs.Tests.{outside, any_of}
use Rattle.plan.proofs.Loops.{range_count}

module _ {A : Type 0} where
  pub any_none : (f : A → Bool) (x : A) (xs : List A) → any_of f (x ∷ xs) ≡ false → (f x ≡ false) × (any_of f xs ≡ false)
  any_none f x xs = neither (f x) (any_of f xs)

  -- The same in the library's word.
  pub any_list : (f : A → Bool) (l : List A) → list_any f l ≡ any_of f l
  any_list f [] = refl
  any_list f (x ∷ l) = rw (any_list f l)

  -- What the failed test shows of each.
  pub every_failed : {P : A → Type 0} (f : A → Bool) (l : List A) → ((x : A) → f x ≡ false → P x) → any_of f l ≡ false → Every P l
  every_failed f [] h e = none
  every_failed f (x ∷ l) h e = let s = any_none f x l e in more (h x s.0) (every_failed f l h s.1)

module _ {A B : Type 0} where
  pub any_map : (f : B → Bool) (g : A → B) (l : List A) → any_of f (map g l) ≡ any_of (λ x. f (g x)) l
  any_map f g [] = refl
  any_map f g (x ∷ l) = rw (any_map f g l)

-- A test of each number below n.
pub any_range : (f : ℕ → Bool) (n : ℕ) → list_any f (range_with_len 0 n) ≡ any_of f (count_from 0 n)
any_range f n = any_list f (range_with_len 0 n) ∙ ap (any_of f) (range_count 0 n)

pub any_below : (f : ℕ → Bool) (k n i : ℕ) → any_of f (count_from k n) ≡ false → k ≤ i → i < k + n → f i ≡ false
any_below f k zero i e a b = absurd (omega arith)
any_below f k (suc n) i e a b =
    let s = any_none f k (count_from (suc k) n) e in
    elim (ℕ_discrete i k) [ yes x ↦ rw x s.0 | no x ↦ any_below f (suc k) n i s.1 (omega arith) (omega arith) ]

pub none_below : (f : ℕ → Bool) (k n : ℕ) → ((i : ℕ) → k ≤ i → i < k + n → f i ≡ false) → any_of f (count_from k n) ≡ false
none_below f k zero h = refl
none_below f k (suc n) h = rw (h k (omega arith) (omega arith)) (none_below f (suc k) n (λ i a b. h i (omega arith) (omega arith)))

pub map_below : {A : Type 0} (f g : ℕ → A) (k n : ℕ) → ((i : ℕ) → k ≤ i → i < k + n → f i ≡ g i) → map f (count_from k n) ≡ map g (count_from k n)
map_below f g k zero h = refl
map_below f g k (suc n) h = rw (h k (omega arith) (omega arith), map_below f g (suc k) n (λ i a b. h i (omega arith) (omega arith)))

pub any_alike : (f g : ℕ → Bool) (k n : ℕ) → ((i : ℕ) → k ≤ i → i < k + n → f i ≡ g i) → any_of f (count_from k n) ≡ any_of g (count_from k n)
any_alike f g k n h =
    sym (any_map (λ b. b) f (count_from k n)) ∙ ap (any_of (λ b. b)) (map_below f g k n h) ∙ any_map (λ b. b) g (count_from k n)

pub any_at : (f : ℕ → Bool) (k n i : ℕ) → k ≤ i → i < k + n → f i ≡ true → any_of f (count_from k n) ≡ true
any_at f k zero i a b e = absurd (omega arith)
any_at f k (suc n) i a b e = elim (ℕ_discrete i k) [
  | yes x ↦ rw (← x, e)
  | no x ↦ rw (any_at f (suc k) n i (omega arith) (omega arith) e) (or-true (f k))
]

pub every_below : {A : Type 0} {P : A → Type 0} (g : ℕ → A) (k n i : ℕ) → Every P (map g (count_from k n)) → k ≤ i → i < k + n → P (g i)
every_below g k zero i h a b = absurd (omega arith)
every_below {A} {P} g k (suc n) i (more h hs) a b = elim (ℕ_discrete i k) [
  | yes e ↦ subst (λ (j : ℕ). P (g j)) (sym e) h
  | no e ↦ every_below g (suc k) n i hs (omega arith) (omega arith)
]

-- One number more.
pub any_more : (f : ℕ → Bool) (k n : ℕ) → any_of f (count_from k (suc n)) ≡ (any_of f (count_from k n) || f (k + n))
any_more f k zero = rw (add-zero, or-false)
any_more f k (suc n) = rw (any_more f (suc k) n, or_assoc, add-suc, suc-add)

pub any_next : (f : ℕ → Bool) (i : ℕ) → (any_of f (count_from 0 i) || f i) ≡ any_of f (count_from 0 (i + 1))
any_next f i = rw (add-one, any_more f 0 i, zero-add)

pub any_one_more : {A : Type 0} (f : A → Bool) (g : ℕ → A) (i : ℕ) → (any_of f (map g (count_from 0 i)) || f (g i)) ≡ any_of f (map g (count_from 0 (i + 1)))
any_one_more f g i =
    rw (any_map f g (count_from 0 i), any_map f g (count_from 0 (i + 1))) (any_next (λ j. f (g j)) i)

pub within : (lowest highest x : ℕ) → outside lowest highest x ≡ false → (lowest ≤ x) × (x ≤ highest)
within lowest highest x e =
    let s = neither (ltb x lowest) (ltb highest x) e in
    (ltb-false x lowest s.0, ltb-false highest x s.1)

pub beyond : (lowest highest x : ℕ) → (outside lowest highest x ≡ true) ↔ ((x < lowest) ⊎ (highest < x))
beyond lowest highest x = (go (ltb x lowest) refl, back)
  where
    go : (b : Bool) → ltb x lowest ≡ b → (b || ltb highest x) ≡ true → (x < lowest) ⊎ (highest < x)
    go true e o = inl (ltb-true x lowest e)
    go false e o = inr (ltb-true highest x o)

    back : (x < lowest) ⊎ (highest < x) → outside lowest highest x ≡ true
    back (inl h) = rw (lt-ltb x lowest h)
    back (inr h) = rw (lt-ltb highest x h) (or-true (ltb x lowest))

pub not_outside : (lowest highest x : ℕ) → lowest ≤ x → x ≤ highest → outside lowest highest x ≡ false
not_outside lowest highest x a b = rw (le-ltb x lowest a, le-ltb highest x b)
