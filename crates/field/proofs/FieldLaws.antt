-- Laws of fields, for any width. Assumes nothing.
use mathlib.Core.Path.{◌≡◌, refl, sym, ap, ◌∙◌}
use mathlib.Core.List.{List}
use Prim.Native.Nat.{ℕ, zero, suc, ◌+◌, ◌-◌, ◌*◌, ◌/◌, ◌%◌, ◌^◌, ◌≤◌, ◌<◌}
use native.Mathlib.Nat.{add-zero, add-suc, mul_assoc, pow-suc, mod-lt, lt_of_lt_of_le, add_assoc, div-eq_of_lt, div-one}
use native.Mathlib.Omega.{arith}
use native.Mathlib.Numerals.{add-one}
use lib.ListN.{length, get_or}
use lib.Dec.{lit<, lit≤}
use lib.Pow.{high, low, shr-shr, pow_mono}
use Rattle.numbers.specs.Numbers.{Bytes, onto, number_at}
use Rattle.numbers.proofs.Numbers.{number_next}
use Rattle.field.specs.Bits.{bit, field_at, window_at}

pub bit_lt : (s : List ℕ) (j : ℕ) → bit s j < 2
unfolding bit
bit_lt s j = mod-lt _ (lit< tt)

-- A field is below two to its width.
pub field_lt : (s : List ℕ) (a w : ℕ) → field_at s a w < 2 ^ w
unfolding field_at
field_lt s a zero = lit< tt
field_lt s a (suc w) = rw pow-suc (omega (arith, field_lt s a w, bit_lt s (a + w)))

-- A field of at most n bits is below two to the n.
pub field_below : (s : List ℕ) (a w n : ℕ) → w ≤ n → field_at s a w < 2 ^ n
field_below s a w n h = lt_of_lt_of_le (field_lt s a w) (pow_mono h)

-- A field of u + v bits is the first u bits, then the v after them.
pub field_split : (s : List ℕ) (a u v : ℕ) → field_at s a (u + v) ≡ field_at s a u * 2 ^ v + field_at s (a + u) v
unfolding field_at
field_split s a u zero = rw (add-zero u) (omega arith)
field_split s a u (suc v) =
    rw (add-suc, pow-suc, ← mul_assoc, add_assoc)
    (omega (arith, field_split s a u v))

-- The w bits behind h others and before t others.
pub field_mid : (s : List ℕ) (a h w t : ℕ) → field_at s a (h + w + t) / 2 ^ t % 2 ^ w ≡ field_at s (a + h) w
field_mid s a h w t =
    rw (field_split s a (h + w) t, high (field_at s a (h + w)) t (field_lt s (a + (h + w)) t), field_split s a h w)
    (low (field_at s a h) w (field_lt s (a + h) w))

-- Bit i of byte m.
bit_in : (s : List ℕ) (m i : ℕ) → i < 8 → bit s (8 * m + i) ≡ get_or s m 0 / 2 ^ (7 - i) % 2
unfolding bit
bit_in s m i h =
    let q : (8 * m + i) / 8 ≡ m = omega arith in
    let r : (8 * m + i) % 8 ≡ i = omega arith in
    rw (q, r)

-- The first i bits of byte m.
field_head : (s : List ℕ) (m i : ℕ) → get_or s m 0 < 256 → i ≤ 8 → field_at s (8 * m) i ≡ get_or s m 0 / 2 ^ (8 - i)
unfolding field_at
field_head s m zero h k = sym (div-eq_of_lt h)
field_head s m (suc i) h k =
    let e : 8 - i ≡ (7 - i) + 1 = omega arith in
    let f : 8 - suc i ≡ 7 - i = omega arith in
    let d : get_or s m 0 / 2 ^ ((7 - i) + 1) ≡ get_or s m 0 / 2 ^ (7 - i) / 2 = sym (shr-shr (get_or s m 0) (7 - i) 1) in
    rw (f, field_head s m i h (omega arith), bit_in s m i (omega arith), e, d)
    (omega arith)

-- Eight bits from a byte's first one are the byte.
pub field_byte : (s : List ℕ) (m : ℕ) → get_or s m 0 < 256 → field_at s (8 * m) 8 ≡ get_or s m 0
field_byte s m h = field_head s m 8 h (lit≤ tt) ∙ div-one (get_or s m 0)

-- One byte more.
pub field_more : (s : List ℕ) (m n : ℕ) → get_or s (m + n) 0 < 256 → field_at s (8 * m) (8 * (n + 1)) ≡ field_at s (8 * m) (8 * n) * 256 + get_or s (m + n) 0
field_more s m n h =
    let e : 8 * (n + 1) ≡ 8 * n + 8 = omega arith in
    let f : 8 * m + 8 * n ≡ 8 * (m + n) = omega arith in
    rw (e, field_split s (8 * m) (8 * n) 8, f, field_byte s (m + n) h)

-- The number that n bytes spell is the field of their bits.
pub number_field : (s : List ℕ) (a n : ℕ) → Bytes s → a + n ≤ length s → number_at s a n ≡ field_at s (8 * a) (8 * n)
unfolding onto field_at
number_field s a zero b h = refl
number_field s a (suc n) b h = rw (← add-one n) (number_next s a n (omega arith) ∙ rw (number_field s a n b (omega arith)) (sym (field_more s a n (b (a + n)))))

-- The window of w bits at bit a, out of the bytes that it stands in.
pub window_out : (s : List ℕ) (a w : ℕ)
    → field_at s (8 * (a / 8)) (8 * ((a + w + 7) / 8 - a / 8)) / 2 ^ ((a + w + 7) / 8 * 8 - (a + w)) ≡ window_at s a w
unfolding window_at
window_out s a w =
    let t : ℕ = (a + w + 7) / 8 * 8 - (a + w) in
    let n : 8 * ((a + w + 7) / 8 - a / 8) ≡ a % 8 + w + t = omega arith in
    rw (n, field_split s (8 * (a / 8)) (a % 8 + w) t)
    (high (field_at s (8 * (a / 8)) (a % 8 + w)) t (field_lt s (8 * (a / 8) + (a % 8 + w)) t))

-- The w bits of a window behind its first h and before its last t.
pub window_field : (s : List ℕ) (a h w t : ℕ) → window_at s a (h + w + t) / 2 ^ t % 2 ^ w ≡ field_at s (a + h) w
unfolding window_at
window_field s a h w t =
    let n : a % 8 + (h + w + t) ≡ a % 8 + h + w + t = omega arith in
    let b : 8 * (a / 8) + (a % 8 + h) ≡ a + h = omega arith in
    rw n (field_mid s (8 * (a / 8)) (a % 8 + h) w t ∙ ap (λ (k : ℕ). field_at s k w) b)

-- The last w bits of a window behind its first h.
pub window_last : (s : List ℕ) (a h w : ℕ) → window_at s a (h + w) % 2 ^ w ≡ field_at s (a + h) w
window_last s a h w = rw (add-zero (h + w), div-one) at (window_field s a h w 0)
