-- A table's rule, by one test over the whole table: entry k is f k. Assumes nothing.
use mathlib.Core.Path.{◌≡◌, ap, ◌∙◌}
use mathlib.Core.Bool.{Bool, true, false, ◌&&◌}
use mathlib.Core.List.{List, [], ◌∷◌}
use Prim.Native.Nat.{ℕ, zero, suc, ◌+◌, ◌<◌}
use native.Mathlib.Nat.{add-zero, zero-add, add-suc, suc-add, le_of_suc-le-suc, not-suc-le-zero}
use lib.Dec.{T, eqb, eqb→eq}
use lib.ListN.{length, get_or}

module _ (f : ℕ → ℕ) where
  -- The test: each entry is f of its place, the first place being i.
  abbrev pub follows : ℕ → List ℕ → Bool
  follows i [] = true
  follows i (x ∷ xs) = eqb x (f i) && follows (suc i) xs

  both : (a b : Bool) → T (a && b) → T a × T b
  both true b t = (tt, t)
  both false b t = absurd t

  from : (xs : List ℕ) (i : ℕ) → T (follows i xs) → (k : ℕ) → k < length xs → get_or xs k 0 ≡ f (i + k)
  from [] i t k h = absurd (not-suc-le-zero h)
  from (x ∷ xs) i t zero h = rw add-zero (eqb→eq x (f i) (both (eqb x (f i)) (follows (suc i) xs) t).0)
  from (x ∷ xs) i t (suc k) h =
      rw (add-suc, ← suc-add) (from xs (suc i) (both (eqb x (f i)) (follows (suc i) xs) t).1 k (le_of_suc-le-suc h))

  -- The rule, at each entry.
  pub entry_is : (xs : List ℕ) → T (follows 0 xs) → (k : ℕ) → k < length xs → get_or xs k 0 ≡ f k
  entry_is xs t k h = from xs 0 t k h ∙ ap f (zero-add k)
