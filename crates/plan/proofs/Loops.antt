-- The numbers from i up to n, one after the other. Assumes nothing.
use mathlib.Core.Path.{◌≡◌, refl}
use mathlib.Core.List.{List, [], ◌∷◌}
use Prim.Native.Nat.{ℕ, zero, suc, ◌+◌, ◌-◌, ◌≤◌, ◌<◌}
use native.Mathlib.Numerals.{add-one}
use native.Mathlib.Omega.{arith}
use Rattle.std.specs.List.{range_with_len}
use Rattle.theory.specs.Sums.{count_from}

-- The numbers from i on that are below n.
abbrev pub from : ℕ → ℕ → List ℕ
from i n = count_from i (n - i)

pub from_zero : (n : ℕ) → from 0 n ≡ count_from 0 n
from_zero n =
    let e : n - 0 ≡ n = omega arith in
    rw e

pub from_next : (i n : ℕ) → i < n → from i n ≡ i ∷ from (i + 1) n
from_next i n h =
    let e : n - i ≡ suc (n - (i + 1)) = omega arith in
    rw (e, add-one)

pub from_end : (i n : ℕ) → n ≤ i → from i n ≡ []
from_end i n h =
    let e : n - i ≡ 0 = omega arith in
    rw e

-- The n numbers from k on, in the library's word.
pub range_count : (k n : ℕ) → range_with_len k n ≡ count_from k n
range_count k zero = refl
range_count k (suc n) = rw (add-one, range_count (suc k) n)
