-- Laws of a row: its length, its places, and that it depends on the used places alone. Assumes nothing.
use mathlib.Core.Path.{◌≡◌, refl, sym, ap, ◌∙◌}
use mathlib.Core.List.{List, [], ◌∷◌, ◌++◌, map}
use Prim.Native.Nat.{ℕ, zero, suc, ◌+◌, ◌≤◌, ◌<◌}
use native.Mathlib.Numerals.{add-one}
use native.Mathlib.Decide.{ℕ_discrete}
use native.Mathlib.Omega.{arith}
use lib.ListN.{length, take, get_or, set, length-set, length-replicate}
use lib.Seq.{take-suc-set, get_or-set_same, get_or-set_other}
use Rattle.theory.specs.Sums.{count_from, Every}
use Rattle.theory.proofs.Sums.{map_count}
use Rattle.theory.proofs.Every.{every_replicate, every_set}
use Rattle.block.specs.Rows.{row}

module _ {A : Type 0} (d : A) (m : ℕ) where
  pub length-row : (f : ℕ → A) (k : ℕ) → length (row d m f k) ≡ m
  unfolding row
  length-row f zero = length-replicate m d
  length-row f (suc k) = length-set (row d m f k) k (f k) ∙ length-row f k

  pub row_ext : (f g : ℕ → A) (k : ℕ) → ((i : ℕ) → i < k → f i ≡ g i) → row d m f k ≡ row d m g k
  unfolding row
  row_ext f g zero h = refl
  row_ext f g (suc k) h = rw (row_ext f g k (λ i p. h i (omega arith)), h k (omega arith))

  -- One place more.
  pub row_next : (f : ℕ → A) (xs : List A) (k : ℕ) (x : A) → xs ≡ row d m f k → x ≡ f k → set xs k x ≡ row d m f (k + 1)
  unfolding row
  row_next f xs k x e h = rw (add-one, e, h)

  -- What holds of d and of every f i holds of all places.
  pub row_every : {P : A → Type 0} (f : ℕ → A) (k : ℕ) → P d → ((i : ℕ) → P (f i)) → Every P (row d m f k)
  unfolding row
  row_every f zero h g = every_replicate d m h
  row_every f (suc k) h g = every_set (row_every f k h g) k (g k)

  -- A used place.
  pub row_used : (e : A) (f : ℕ → A) (k i : ℕ) → i < k → k ≤ m → get_or (row d m f k) i e ≡ f i
  unfolding row
  row_used e f zero i h l = absurd (omega arith)
  row_used e f (suc k) i h l = elim (ℕ_discrete i k) [
    | yes x ↦
        let p : k < length (row d m f k) = rw (length-row f k) l in
        rw x (get_or-set_same (row d m f k) k (f k) e p)
    | no n ↦ get_or-set_other (row d m f k) k i (f k) e n ∙ row_used e f k i (omega arith) (omega arith)
  ]

  -- The used places.
  pub row_front : (f : ℕ → A) (k : ℕ) → k ≤ m → take k (row d m f k) ≡ map f (count_from 0 k)
  unfolding row
  row_front f zero h = refl
  row_front f (suc k) h =
      take-suc-set (row d m f k) k (f k) (rw (length-row f k) h) ∙ (ap (λ (l : List A). l ++ (f k ∷ [])) (row_front f k (omega arith)) ∙ sym (map_count f 0 k k (omega arith)))
