-- Numbers in bytes, each most significant byte first. Assumes nothing.
use Rattle.std.specs.Prelude.{ℕ, zero, suc, ◌+◌, ◌*◌, ◌/◌, ◌%◌, ◌^◌, ◌<◌, List, [], ◌∷◌, take, drop, get_or}

-- A list of bytes.
abbrev pub Bytes : List ℕ → Type 0
Bytes s = (i : ℕ) → get_or s i 0 < 256

-- The last n bytes of v, most significant first.
unfoldable pub big_endian : ℕ → ℕ → List ℕ
big_endian zero v = []
big_endian (suc n) v = (v / 256 ^ n) % 256 ∷ big_endian n v

-- The number whose bytes are those of acc and then bs.
unfoldable pub onto : ℕ → List ℕ → ℕ
onto acc [] = acc
onto acc (b ∷ bs) = onto (acc * 256 + b) bs

-- The number in n bytes from `at` on.
abbrev pub number_at : List ℕ → ℕ → ℕ → ℕ
number_at s at n = onto 0 (take n (drop at s))
