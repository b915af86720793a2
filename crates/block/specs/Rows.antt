-- A list of m places of which the first k are used, and the others hold d. Assumes nothing.
use Rattle.std.specs.Prelude.{ℕ, zero, suc, List, replicate, set}

module _ {A : Type 0} where
  unfoldable pub row : A → ℕ → (ℕ → A) → ℕ → List A
  row d m f zero = replicate m d
  row d m f (suc k) = set (row d m f k) k (f k)
