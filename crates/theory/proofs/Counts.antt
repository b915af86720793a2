-- Lists of numbers in any order: what depends only on how often each number stands in a list. Assumes nothing.
use Prim.Native.Nat.{ℕ, suc, ◌+◌, ◌<◌}
use mathlib.Core.Path.{◌≡◌, refl, sym, ap, ◌∙◌}
use mathlib.Core.Bool.{Bool, true, false, cond}
use mathlib.Core.Logic.{inr}
use mathlib.Core.List.{List, [], ◌∷◌, ◌++◌}
use native.Mathlib.Omega.{arith}
use lib.Dec.{eqb, ltb}
use lib.ListN.{length}
use borrow.Author.Tests.{eqb-true, eqb-false, eq-eqb, ltb-true, ltb-false}
use Rattle.theory.specs.Sums.{count_from, count_of, EachOnce}
use Rattle.theory.proofs.Sums.{sum_append, sum_out, sum_point, length_count}

pub count_append : (i : ℕ) (xs ys : List ℕ) → count_of i (xs ++ ys) ≡ count_of i xs + count_of i ys
count_append i = sum_append (λ j. cond (eqb i j) 1 0)

-- A list without the first k in it.
abbrev del : ℕ → List ℕ → List ℕ
del k [] = []
del k (j ∷ js) = cond (eqb k j) js (j ∷ del k js)

-- Where two numbers in front may change places, any number of the list may stand in front.
module _ {B : Type 0} (F : List ℕ → B) (behind : (i : ℕ) (js ks : List ℕ) → F js ≡ F ks → F (i ∷ js) ≡ F (i ∷ ks))
    (swap : (i j : ℕ) → (i ≡ j → ⊥) → (ks : List ℕ) → F (i ∷ j ∷ ks) ≡ F (j ∷ i ∷ ks)) where
  to_front : (k : ℕ) (js : List ℕ) → 0 < count_of k js → F js ≡ F (k ∷ del k js)
  to_front k [] h = absurd (omega arith)
  to_front k (j ∷ js) h = go (eqb k j) refl (to_front k js)
    where
      go : (b : Bool) → eqb k j ≡ b → (0 < count_of k js → F js ≡ F (k ∷ del k js)) → F (j ∷ js) ≡ F (k ∷ cond b js (j ∷ del k js))
      go true e r = ap (λ x. F (x ∷ js)) (sym (eqb-true k j e))
      go false e r = behind j js (k ∷ del k js) (r (omega (arith, rw e at h))) ∙ swap j k (λ q. eqb-false k j e (sym q)) (del k js)

count_del : (i k : ℕ) (js : List ℕ) → 0 < count_of k js → count_of i js ≡ cond (eqb i k) 1 0 + count_of i (del k js)
count_del i = to_front (count_of i) (λ j js ks. ap (cond (eqb i j) 1 0 +◌)) (λ j k ne ks. omega arith)

-- Then only how often each number is listed matters.
module _ {B : Type 0} (F : List ℕ → B) (behind : (i : ℕ) (js ks : List ℕ) → F js ≡ F ks → F (i ∷ js) ≡ F (i ∷ ks))
    (swap : (i j : ℕ) → (i ≡ j → ⊥) → (ks : List ℕ) → F (i ∷ j ∷ ks) ≡ F (j ∷ i ∷ ks)) where
  pub by_counts : (ks js : List ℕ) → ((i : ℕ) → count_of i js ≡ count_of i ks) → F js ≡ F ks
  by_counts [] [] h = refl
  by_counts [] (j ∷ js) h = absurd (omega (arith, rw (eq-eqb j j refl) at (h j)))
  by_counts (k ∷ ks) js h =
      let p : 0 < count_of k js = omega (arith, rw (eq-eqb k k refl) at (h k)) in
      to_front F behind swap k js p ∙ behind k (del k js) ks (by_counts ks (del k js) (λ i. omega (arith, h i, count_del i k js p)))

-- The count from 0 has each number below n once, and no other.
pub count_all : (n : ℕ) → EachOnce n (count_from 0 n)
count_all n j = go (ltb j n) refl
  where
    go : (b : Bool) → ltb j n ≡ b → count_of j (count_from 0 n) ≡ cond b 1 0
    go true e = sum_point j (λ i. 1) 0 n (omega arith) (omega (arith, ltb-true j n e))
    go false e = sum_out j (λ i. 1) 0 n (inr (omega (arith, ltb-false j n e)))

-- A list that has each number below n once, and no other, has n numbers.
pub once_length : (n : ℕ) (js : List ℕ) → EachOnce n js → length js ≡ n
once_length n js once =
    by_counts length (λ i js ks. ap suc) (λ i j ne ks. refl) (count_from 0 n) js (λ i. once i ∙ sym (count_all n i)) ∙ length_count 0 n
