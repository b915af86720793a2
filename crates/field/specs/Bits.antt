-- "The sheet": fields are bit-packed, most significant first. Bits of a list of bytes, and the field of w bits at bit a. Assumes nothing.
use Rattle.std.specs.Prelude.{ℕ, zero, suc, ◌+◌, ◌-◌, ◌*◌, ◌/◌, ◌%◌, ◌^◌, List, get_or, set}

-- Bit j of the bytes s: bit 0 is the most significant of the first byte.
unfoldable pub bit : List ℕ → ℕ → ℕ
bit s j = get_or s (j / 8) 0 / 2 ^ (7 - j % 8) % 2

-- The number that the w bits from bit a spell, the most significant first.
unfoldable pub field_at : List ℕ → ℕ → ℕ → ℕ
field_at s a zero = 0
field_at s a (suc w) = 2 * field_at s a w + bit s (a + w)

-- The number that the w bits from bit a spell behind the a % 8 bits that stand before them in the same byte.
unfoldable pub window_at : List ℕ → ℕ → ℕ → ℕ
window_at s a w = field_at s (8 * (a / 8)) (a % 8 + w)

-- The number x with the bit of weight p set to b.
abbrev pub with_bit : ℕ → ℕ → ℕ → ℕ
with_bit x p b = x - x / p % 2 * p + b * p

-- The bytes s with bit j set to b.
unfoldable pub set_bit : List ℕ → ℕ → ℕ → List ℕ
set_bit s j b = set s (j / 8) (with_bit (get_or s (j / 8) 0) (2 ^ (7 - j % 8)) b)

-- The bytes s with the w bits from bit a set to the lowest w bits of v, the most significant first.
unfoldable pub put_at : List ℕ → ℕ → ℕ → ℕ → List ℕ
put_at s a zero v = s
put_at s a (suc w) v = set_bit (put_at s a w (v / 2)) (a + w) (v % 2)
