-- Laws of sums over lists. Assumes nothing.
use Prim.Native.Nat.{ℕ, zero, suc, ◌+◌, ◌*◌, ◌≤◌, ◌<◌}
use mathlib.Core.Path.{◌≡◌, refl, sym, ap, ap₂, ◌∙◌}
use mathlib.Core.Bool.{Bool, true, false, cond}
use mathlib.Core.Logic.{◌⊎◌, inl, inr}
use mathlib.Core.List.{List, [], ◌∷◌, ◌++◌, map, append_assoc, append-nil}
use native.Mathlib.Nat.{mul-one, add-zero, add_assoc, zero-add, mul-zero, mul-add, add-le-add, le_refl}
use native.Mathlib.Numerals.{add-one}
use native.Mathlib.Omega.{arith}
use lib.Dec.{eqb}
use lib.ListN.{length, get_or, take, drop, length-map, take-append-drop}
use lib.Seq.{take-suc}
use borrow.Author.Tests.{eqb-true, eqb-false, ne_eqb}
use Rattle.theory.specs.Sums.{sum_by, for_each, one_of_each, count_from}

module _ {A : Type 0} where
  pub sum_append : (f : A → ℕ) (xs ys : List A) → sum_by f (xs ++ ys) ≡ sum_by f xs + sum_by f ys
  sum_append f [] ys = sym (zero-add (sum_by f ys))
  sum_append f (x ∷ xs) ys = rw (sum_append f xs ys) (sym (add_assoc (f x) (sum_by f xs) (sum_by f ys)))

  pub sum_ext : {f g : A → ℕ} → ((x : A) → f x ≡ g x) → (xs : List A) → sum_by f xs ≡ sum_by g xs
  sum_ext h [] = refl
  sum_ext h (x ∷ xs) = ap₂ ◌+◌ (h x) (sum_ext h xs)

  pub sum_le : {f g : A → ℕ} → ((x : A) → f x ≤ g x) → (xs : List A) → sum_by f xs ≤ sum_by g xs
  sum_le h [] = le_refl 0
  sum_le h (x ∷ xs) = add-le-add (h x) (sum_le h xs)

  -- The sum over the first i elements goes on by element i, and is never above that over all.
  pub sum_next : (f : A → ℕ) (xs : List A) (i : ℕ) (d : A) → i < length xs → sum_by f (take (i + 1) xs) ≡ sum_by f (take i xs) + f (get_or xs i d)
  sum_next f xs i d h = rw (add-one, take-suc xs i d h, sum_append) (omega arith)

  pub sum_take : (f : A → ℕ) (i : ℕ) (xs : List A) → sum_by f (take i xs) ≤ sum_by f xs
  sum_take f i xs = omega (arith, sum_append f (take i xs) (drop i xs), ap (sum_by f) (take-append-drop i xs))

  pub sum_scale : (k : ℕ) (f : A → ℕ) (xs : List A) → sum_by (λ x. k * f x) xs ≡ k * sum_by f xs
  sum_scale k f [] = sym (mul-zero k)
  sum_scale k f (x ∷ xs) = rw (sum_scale k f xs) (sym (mul-add k (f x) (sum_by f xs)))

  pub sum_add : (f g : A → ℕ) (xs : List A) → sum_by (λ x. f x + g x) xs ≡ sum_by f xs + sum_by g xs
  sum_add f g [] = refl
  sum_add f g (x ∷ xs) = omega (arith, sum_add f g xs)

  pub sum_zero : (xs : List A) → sum_by (λ x. 0) xs ≡ 0
  sum_zero [] = refl
  sum_zero (x ∷ xs) = omega (arith, sum_zero xs)

module _ {A B : Type 0} where
  pub sum_map : (f : B → ℕ) (g : A → B) (xs : List A) → sum_by f (map g xs) ≡ sum_by (λ x. f (g x)) xs
  sum_map f g [] = refl
  sum_map f g (x ∷ xs) = ap (f (g x) +◌) (sum_map f g xs)

  pub sum_for_each : (f : B → ℕ) (g : A → List B) (xs : List A) → sum_by f (for_each xs g) ≡ sum_by (λ x. sum_by f (g x)) xs
  sum_for_each f g [] = refl
  sum_for_each f g (x ∷ xs) = sum_append f (g x) (for_each xs g) ∙ ap (sum_by f (g x) +◌) (sum_for_each f g xs)

  -- Two sums may change places.
  pub sum_swap : (f : A → B → ℕ) (xs : List A) (ys : List B) → sum_by (λ x. sum_by (f x) ys) xs ≡ sum_by (λ y. sum_by (λ x. f x y) xs) ys
  sum_swap f [] ys = sym (sum_zero ys)
  sum_swap f (x ∷ xs) ys = ap (sum_by (f x) ys +◌) (sum_swap f xs ys) ∙ sym (sum_add (f x) (λ y. sum_by (λ z. f z y) xs) ys)

module _ {A : Type 0} where
  pub sum_one_of_each : (f : List A → ℕ) (l : List A) (ls : List (List A)) → sum_by f (one_of_each (l ∷ ls)) ≡ sum_by (λ x. sum_by (λ t. f (x ∷ t)) (one_of_each ls)) l
  sum_one_of_each f l ls =
      sum_for_each f (λ x. map (x ∷◌) (one_of_each ls)) l ∙ sum_ext (λ x. sum_map f (x ∷◌) (one_of_each ls)) l

-- A sum with at most one term is 0, or that term.
pub sum_out : (a : ℕ) (g : ℕ → ℕ) (k n : ℕ) → (a < k) ⊎ (k + n ≤ a) → sum_by (λ v. cond (eqb a v) (g v) 0) (count_from k n) ≡ 0
sum_out a g k zero h = refl
sum_out a g k (suc n) (inl h) = rw (ne_eqb a k (omega arith)) (omega (arith, sum_out a g (suc k) n (inl (omega arith))))
sum_out a g k (suc n) (inr h) = rw (ne_eqb a k (omega arith)) (omega (arith, sum_out a g (suc k) n (inr (omega arith))))

pub sum_point : (a : ℕ) (g : ℕ → ℕ) (k n : ℕ) → k ≤ a → a < k + n → sum_by (λ v. cond (eqb a v) (g v) 0) (count_from k n) ≡ g a
sum_point a g k zero h l = absurd (omega arith)
sum_point a g k (suc n) h l = go (eqb a k) refl (λ i. sum_point a g (suc k) n i (omega arith))
  where
    go : (b : Bool) → eqb a k ≡ b → (suc k ≤ a → sum_by (λ v. cond (eqb a v) (g v) 0) (count_from (suc k) n) ≡ g a)
        → cond b (g k) 0 + sum_by (λ v. cond (eqb a v) (g v) 0) (count_from (suc k) n) ≡ g a
    go true e r =
        let q : a ≡ k = eqb-true a k e in
        rw (sum_out a g (suc k) n (inl (omega arith))) (add-zero (g k) ∙ ap g (sym q))
    go false e r =
        let q : a ≡ k → ⊥ = eqb-false a k e in
        zero-add _ ∙ r (omega arith)

-- A test is a factor 1 or 0.
pub cond_mul : (b : Bool) (w : ℕ) → cond b w 0 ≡ w * cond b 1 0
cond_mul true w = sym (mul-one w)
cond_mul false w = sym (mul-zero w)

pub length_count : (k n : ℕ) → length (count_from k n) ≡ n
length_count k zero = refl
length_count k (suc n) = ap suc (length_count (suc k) n)

-- The list of f of each number below n.
pub length_below : {A : Type 0} (f : ℕ → A) (n : ℕ) → length (map f (count_from 0 n)) ≡ n
length_below f n = length-map (count_from 0 n) f ∙ length_count 0 n

map_shift : {A : Type 0} (f : ℕ → A) (k n : ℕ) → map f (count_from (suc k) n) ≡ map (λ j. f (suc j)) (count_from k n)
map_shift f k zero = refl
map_shift f k (suc n) = ap (λ xs. f (suc k) ∷ xs) (map_shift f (suc k) n)

-- One number more.
pub map_count : {A : Type 0} (f : ℕ → A) (k n j : ℕ) → k + n ≡ j → map f (count_from k (suc n)) ≡ map f (count_from k n) ++ (f j ∷ [])
map_count f k zero j e = let e2 : k ≡ j = omega arith in ap (λ (i : ℕ). f i ∷ []) e2
map_count f k (suc n) j e = ap (λ xs. f k ∷ xs) (map_count f (suc k) n j (omega arith))

-- A list is the list of its elements by their places.
pub map_places : {A : Type 0} (d : A) (xs : List A) → map (λ j. get_or xs j d) (count_from 0 (length xs)) ≡ xs
map_places d [] = refl
map_places d (x ∷ xs) = ap (λ ys. x ∷ ys) (map_shift (λ j. get_or (x ∷ xs) j d) 0 (length xs) ∙ map_places d xs)

module _ {A B : Type 0} (f : A → List B) where
  pub for_each-append : (xs ys : List A) → for_each (xs ++ ys) f ≡ for_each xs f ++ for_each ys f
  for_each-append [] ys = refl
  for_each-append (x ∷ xs) ys = rw (for_each-append xs ys) (sym (append_assoc (f x) (for_each xs f) (for_each ys f)))

  -- The lists of one element more.
  pub for_each_next : (xs : List A) (j : ℕ) (d : A) → j < length xs → for_each (take (j + 1) xs) f ≡ for_each (take j xs) f ++ f (get_or xs j d)
  for_each_next xs j d h = rw (add-one, take-suc xs j d, for_each-append, append-nil)
