-- Sums, products and the greatest over lists, counts, and every way to take one element from each list of a row. Assumes nothing.
use Rattle.std.specs.Prelude.{ℕ, zero, suc, ◌+◌, ◌*◌, max, ◌≡◌, cond, List, [], ◌∷◌, ◌++◌, map, eqb, ltb}

module _ {A : Type 0} where
  -- The sum of f over a list.
  abbrev pub sum_by : (A → ℕ) → List A → ℕ
  sum_by f [] = 0
  sum_by f (x ∷ xs) = f x + sum_by f xs

  -- The product of f over a list.
  abbrev pub product_by : (A → ℕ) → List A → ℕ
  product_by f [] = 1
  product_by f (x ∷ xs) = f x * product_by f xs

  -- The greatest of f over a list, 0 for the empty one.
  abbrev pub greatest_by : (A → ℕ) → List A → ℕ
  greatest_by f [] = 0
  greatest_by f (x ∷ xs) = max (f x) (greatest_by f xs)

module _ {A B : Type 0} where
  -- The lists f x, one behind the other.
  abbrev pub for_each : List A → (A → List B) → List B
  for_each [] f = []
  for_each (x ∷ xs) f = f x ++ for_each xs f

module _ {A : Type 0} where
  -- Every way to take one element from each list of a row, in the row's order.
  abbrev pub one_of_each : List (List A) → List (List A)
  one_of_each [] = [] ∷ []
  one_of_each (l ∷ ls) = for_each l (λ x. map (x ∷◌) (one_of_each ls))

-- The n numbers from k on.
abbrev pub count_from : ℕ → ℕ → List ℕ
count_from k zero = []
count_from k (suc n) = k ∷ count_from (suc k) n

-- How often a number stands in a list.
abbrev pub count_of : ℕ → List ℕ → ℕ
count_of i = sum_by (λ j. cond (eqb i j) 1 0)

-- A list has each number below n exactly once, and no other.
abbrev pub EachOnce : ℕ → List ℕ → Type 0
EachOnce n js = (i : ℕ) → count_of i js ≡ cond (ltb i n) 1 0

-- A property holds of each element of a list.
pub data Every {A : Type 0} (P : A → Type 0) : List A → Type 0 where
  none : Every P []
  more : {x : A} {xs : List A} → P x → Every P xs → Every P (x ∷ xs)
