-- Laws of writing: one bit of a number, one bit of a list of bytes, a field of any width. Assumes nothing.
use mathlib.Core.Path.{◌≡◌, refl, sym, ap, ◌∙◌}
use mathlib.Core.List.{List}
use mathlib.Core.Logic.{◌≢◌}
use Prim.Native.Nat.{ℕ, zero, suc, ◌+◌, ◌-◌, ◌*◌, ◌/◌, ◌%◌, ◌^◌, ◌≤◌, ◌<◌}
use native.Mathlib.Nat.{add-zero, zero-mul, add-mul, div-add-mod', mod-lt, mod-le, mul-le-mul_right, div-mul-le_self, le_trans}
use native.Mathlib.Nat.{pow-suc, div-one, div-lt_iff_lt-mul}
use native.Mathlib.Numerals.{add-one}
use native.Mathlib.Decide.{dec_lt, ℕ_discrete}
use native.Mathlib.Omega.{arith}
use lib.ListN.{length, get_or, length-set}
use lib.Seq.{get_or-set_same, get_or-set_other, set-set, set_comm, ext_get_or}
use lib.Pow.{high, low, shr-shr, pow_pos, field, mod-mod-pow, pow-add}
use Rattle.numbers.specs.Numbers.{Bytes}
use Rattle.field.specs.Bits.{with_bit, bit, field_at, set_bit, put_at}
use Rattle.field.proofs.FieldLaws.{field_byte}

put_eq : (x p b : ℕ) → with_bit x p b ≡ (x / p / 2 * 2 + b) * p + x % p
put_eq x p b =
    let e : x / p ≡ x / p / 2 * 2 + x / p % 2 = omega arith in
    let f : x / p * p ≡ x / p / 2 * 2 * p + x / p % 2 * p = ap (λ (k : ℕ). k * p) e ∙ add-mul (x / p / 2 * 2) (x / p % 2) p in
    omega (arith, f, div-add-mod' x p, add-mul (x / p / 2 * 2) b p)

module _ (x k b : ℕ) (hb : b < 2) where
  put_high : with_bit x (2 ^ k) b / 2 ^ k ≡ x / 2 ^ k / 2 * 2 + b
  put_high = rw (put_eq x (2 ^ k) b) (high (x / 2 ^ k / 2 * 2 + b) k (mod-lt x (pow_pos k)))

  put_low : with_bit x (2 ^ k) b % 2 ^ k ≡ x % 2 ^ k
  put_low = rw (put_eq x (2 ^ k) b) (low (x / 2 ^ k / 2 * 2 + b) k (mod-lt x (pow_pos k)))

  pub put_bit : with_bit x (2 ^ k) b / 2 ^ k % 2 ≡ b
  put_bit = rw put_high (omega arith)

  put_above : with_bit x (2 ^ k) b / 2 ^ k / 2 ≡ x / 2 ^ k / 2
  put_above = rw put_high (omega arith)

-- A bit below k depends on the number's remainder by 2 ^ k alone.
bit_below : (x k i : ℕ) → i < k → x / 2 ^ i % 2 ≡ x % 2 ^ k % 2 ^ (1 + i) / 2 ^ i
bit_below x k i h =
    let e : k ≡ (k - (1 + i)) + (1 + i) = omega arith in
    sym (field x 1 i) ∙ ap (λ (n : ℕ). n / 2 ^ i) (sym (ap (λ (n : ℕ). x % 2 ^ n % 2 ^ (1 + i)) e ∙ mod-mod-pow x (k - (1 + i)) (1 + i)))

-- A bit above k, of what stands above k.
bit_above : (x k i : ℕ) → k < i → x / 2 ^ i ≡ x / 2 ^ k / 2 / 2 ^ (i - (k + 1))
bit_above x k i h =
    let e : i ≡ k + 1 + (i - (k + 1)) = omega arith in
    ap (λ (n : ℕ). x / 2 ^ n) e ∙ sym (shr-shr x (k + 1) (i - (k + 1))) ∙ ap (λ (n : ℕ). n / 2 ^ (i - (k + 1))) (sym (shr-shr x k 1))

pub put_other : (x k b i : ℕ) → b < 2 → i ≢ k → with_bit x (2 ^ k) b / 2 ^ i % 2 ≡ x / 2 ^ i % 2
put_other x k b i hb ne = elim (dec_lt i k) [
  | yes h ↦ bit_below (with_bit x (2 ^ k) b) k i h ∙ ap (λ (n : ℕ). n % 2 ^ (1 + i) / 2 ^ i) (put_low x k b hb) ∙ sym (bit_below x k i h)
  | no h ↦
      ap (λ (n : ℕ). n % 2) (bit_above (with_bit x (2 ^ k) b) k i (omega arith)
      ∙ ap (λ (n : ℕ). n / 2 ^ (i - (k + 1))) (put_above x k b hb) ∙ sym (bit_above x k i (omega arith)))
]

-- A bit's part of x.
pub bit_part : (x p : ℕ) → x / p % 2 * p ≤ x
bit_part x p = le_trans (mul-le-mul_right p (mod-le (x / p) 2)) (div-mul-le_self x p)

-- Two bits of a number may be set in either order.
put_comm : (x k m b c : ℕ) → b < 2 → c < 2 → k ≢ m → with_bit (with_bit x (2 ^ k) b) (2 ^ m) c ≡ with_bit (with_bit x (2 ^ m) c) (2 ^ k) b
put_comm x k m b c hb hc ne =
    let other : (a : ℕ) → a < 2 → with_bit x (2 ^ k) a / 2 ^ m % 2 ≡ x / 2 ^ m % 2 = λ a h. put_other x k a m h (λ e. ne (omega arith)) in
    let both : x / 2 ^ m % 2 * 2 ^ m ≤ with_bit x (2 ^ k) 0 = rw (← other 0 (omega arith)) (bit_part (with_bit x (2 ^ k) 0) (2 ^ m)) in
    rw (other b hb, put_other x m c k hc ne) (omega (arith, both, bit_part x (2 ^ k), zero-mul (2 ^ k)))

-- A byte stays a byte.
pub put_lt : (x k b : ℕ) → b < 2 → k ≤ 7 → x < 256 → with_bit x (2 ^ k) b < 256
put_lt x k b hb hk hx =
    let e : 2 ^ (7 - k) * 2 ^ (k + 1) ≡ 256 = (let n : (7 - k) + (k + 1) ≡ 8 = omega arith in sym (pow-add 2 (7 - k) (k + 1)) ∙ ap (λ (n : ℕ). 2 ^ n) n) in
    let q : (y : ℕ) → y / 2 ^ k / 2 ≡ y / 2 ^ (k + 1) = λ y. shr-shr y k 1 in
    let s : with_bit x (2 ^ k) b / 2 ^ (k + 1) ≡ x / 2 ^ (k + 1) = sym (q (with_bit x (2 ^ k) b)) ∙ put_above x k b hb ∙ q x in
    let x' : x < 2 ^ (7 - k) * 2 ^ (k + 1) = rw e hx in
    let h : x / 2 ^ (k + 1) < 2 ^ (7 - k) = (div-lt_iff_lt-mul (pow_pos (k + 1))).1 x' in
    let y : with_bit x (2 ^ k) b / 2 ^ (k + 1) < 2 ^ (7 - k) = rw s h in
    rw e at ((div-lt_iff_lt-mul (pow_pos (k + 1))).0 y)

-- The length stays.
pub length-set_bit : (s : List ℕ) (j b : ℕ) → length (set_bit s j b) ≡ length s
unfolding set_bit
length-set_bit s j b = simp length-set

-- The bit that was set.
pub set_bit_same : (s : List ℕ) (j b : ℕ) → j < 8 * length s → b < 2 → bit (set_bit s j b) j ≡ b
unfolding bit set_bit
set_bit_same s j b h hb =
    let i : j / 8 < length s = omega arith in
    rw get_or-set_same (put_bit (get_or s (j / 8) 0) (7 - j % 8) b hb)

-- Every other bit stays.
pub set_bit_other : (s : List ℕ) (j b i : ℕ) → j < 8 * length s → b < 2 → i ≢ j → bit (set_bit s j b) i ≡ bit s i
unfolding bit set_bit
set_bit_other s j b i h hb ne = elim (ℕ_discrete (i / 8) (j / 8)) [
  | yes e ↦
      let l : j / 8 < length s = omega arith in
      let k : 7 - i % 8 ≢ 7 - j % 8 = omega arith in
      rw (e, get_or-set_same) (put_other (get_or s (j / 8) 0) (7 - j % 8) b (7 - i % 8) hb k)
  | no d ↦ rw (get_or-set_other s (j / 8) (i / 8))
]

-- Bytes stay bytes.
pub set_bit_bytes : (s : List ℕ) (j b : ℕ) → j < 8 * length s → b < 2 → Bytes s → Bytes (set_bit s j b)
unfolding set_bit
set_bit_bytes s j b h hb B i = elim (ℕ_discrete i (j / 8)) [
  | yes e ↦
      let l : j / 8 < length s = omega arith in
      rw (e, get_or-set_same) (put_lt (get_or s (j / 8) 0) (7 - j % 8) b hb (omega arith) (B (j / 8)))
  | no d ↦ rw (get_or-set_other s (j / 8) i) (B i)
]

-- Two bits of bytes may be set in either order.
set_bit_comm : (s : List ℕ) (i b j c : ℕ) → i < 8 * length s → j < 8 * length s → b < 2 → c < 2 → i ≢ j
    → set_bit (set_bit s i b) j c ≡ set_bit (set_bit s j c) i b
unfolding set_bit
set_bit_comm s i b j c hi hj hb hc ne = elim (ℕ_discrete (i / 8) (j / 8)) [
  | yes e ↦
      let l : j / 8 < length s = omega arith in
      let k : 7 - i % 8 ≢ 7 - j % 8 = omega arith in
      rw (e, get_or-set_same, get_or-set_same, set-set, set-set, put_comm (get_or s (j / 8) 0) (7 - i % 8) (7 - j % 8) b c hb hc k)
  | no d ↦
      let d' : j / 8 ≢ i / 8 = λ e. d (sym e) in
      rw (get_or-set_other s (i / 8) (j / 8), get_or-set_other s (j / 8) (i / 8)) (set_comm s (i / 8) (j / 8) _ _ d)
]

-- The length stays.
pub length_put_at : (s : List ℕ) (a w v : ℕ) → length (put_at s a w v) ≡ length s
unfolding put_at
length_put_at s a zero v = refl
length_put_at s a (suc w) v = length-set_bit (put_at s a w (v / 2)) (a + w) (v % 2) ∙ length_put_at s a w (v / 2)

room : (s : List ℕ) (a w v : ℕ) → a + suc w ≤ 8 * length s → a + w < 8 * length (put_at s a w v)
room s a w v h = rw length_put_at (omega arith)

-- A field of one bit more in front.
pub put_at_front : (s : List ℕ) (a w v : ℕ) → a + suc w ≤ 8 * length s → set_bit (put_at s (a + 1) w v) a (v / 2 ^ w % 2) ≡ put_at s a (w + 1) v
unfolding put_at
put_at_front s a zero v h = rw (div-one, add-zero)
put_at_front s a (suc w) v h =
    let e : a + 1 + w ≡ a + suc w = omega arith in
    let d : v / 2 ^ suc w ≡ v / 2 / 2 ^ w = sym (shr-shr v 1 w ∙ ap (λ (n : ℕ). v / 2 ^ n) (omega arith)) in
    let front : set_bit (put_at s (a + 1) w (v / 2)) a (v / 2 ^ suc w % 2) ≡ put_at s a (suc w) (v / 2) =
    rw d (put_at_front s a w (v / 2) (omega arith) ∙ ap (λ (n : ℕ). put_at s a n (v / 2)) (add-one w)) in
    let r : a + 1 + w < 8 * length (put_at s (a + 1) w (v / 2)) = room s (a + 1) w (v / 2) (omega arith) in
    set_bit_comm (put_at s (a + 1) w (v / 2)) (a + 1 + w) (v % 2) a (v / 2 ^ suc w % 2) r (omega arith) (omega arith) (omega arith) (omega arith)
    ∙ (λ i. set_bit (front i) (e i) (v % 2)) ∙ ap (λ (n : ℕ). put_at s a n v) (sym (add-one (suc w)))

-- One bit more in front of the i-th, of a field of w bits from bit a; what is left of v loses it.
pub put_at_more : (s t : List ℕ) (a w v x i : ℕ) → 0 < i → i ≤ w → a + w ≤ 8 * length s → x ≡ v / 2 ^ (w - i) → t ≡ put_at s (a + i) (w - i) v
    → (x / 2 ≡ v / 2 ^ (w - (i - 1))) × (set_bit t (a + (i - 1)) (x % 2) ≡ put_at s (a + (i - 1)) (w - (i - 1)) v)
put_at_more s t a w v x i f g h p q =
    let k : ℕ = w - i in
    let e : w - (i - 1) ≡ k + 1 = omega arith in
    let d : a + i ≡ a + (i - 1) + 1 = omega arith in
    let r : t ≡ put_at s (a + (i - 1) + 1) k v = rw (← d) q in
    rw (e, p, r) (shr-shr v k 1, put_at_front s (a + (i - 1)) k v (omega arith))

-- Every bit outside of the field stays.
pub put_at_other : (s : List ℕ) (a w v j : ℕ) → a + w ≤ 8 * length s → (a ≤ j → j < a + w → ⊥) → bit (put_at s a w v) j ≡ bit s j
unfolding put_at
put_at_other s a zero v j h out = refl
put_at_other s a (suc w) v j h out =
    set_bit_other (put_at s a w (v / 2)) (a + w) (v % 2) j (room s a w (v / 2) h) (omega arith) (λ e. out (omega arith) (omega arith))
    ∙ put_at_other s a w (v / 2) j (omega arith) (λ p q. out p (omega arith))

-- Equal bits spell equal fields.
pub field_ext : (s t : List ℕ) (a w : ℕ) → ((j : ℕ) → a ≤ j → j < a + w → bit s j ≡ bit t j) → field_at s a w ≡ field_at t a w
unfolding field_at
field_ext s t a zero h = refl
field_ext s t a (suc w) h = rw (field_ext s t a w (λ j p q. h j p (omega arith)), h (a + w) (omega arith) (omega arith))

-- A field that is put is read back.
pub put_at_same : (s : List ℕ) (a w v : ℕ) → a + w ≤ 8 * length s → v < 2 ^ w → field_at (put_at s a w v) a w ≡ v
unfolding put_at field_at
put_at_same s a zero v h hv = omega arith
put_at_same s a (suc w) v h hv =
    let u : v / 2 < 2 ^ w = omega (arith, pow-suc 2 w) in
    let r = room s a w (v / 2) h in
    rw (
      field_ext (set_bit (put_at s a w (v / 2)) (a + w) (v % 2)) (put_at s a w (v / 2)) a w
          (λ j p q. set_bit_other (put_at s a w (v / 2)) (a + w) (v % 2) j r (omega arith) (omega arith)),
      put_at_same s a w (v / 2) (omega arith) u,
      set_bit_same (put_at s a w (v / 2)) (a + w) (v % 2) r (omega arith),
    )
    (omega arith)

-- Bytes stay bytes.
pub put_at_bytes : (s : List ℕ) (a w v : ℕ) → a + w ≤ 8 * length s → Bytes s → Bytes (put_at s a w v)
unfolding put_at
put_at_bytes s a zero v h B = B
put_at_bytes s a (suc w) v h B =
    set_bit_bytes (put_at s a w (v / 2)) (a + w) (v % 2) (room s a w (v / 2) h) (omega arith) (put_at_bytes s a w (v / 2) (omega arith) B)

-- Bytes are known by their bits.
pub bits_ext : (s t : List ℕ) → length s ≡ length t → Bytes s → Bytes t → ((j : ℕ) → j < 8 * length s → bit s j ≡ bit t j) → s ≡ t
bits_ext s t l B C h =
    ext_get_or 0 s t l (λ i p.
    sym (field_byte s i (B i)) ∙ field_ext s t (8 * i) 8 (λ j x y. h j (omega arith)) ∙ field_byte t i (C i))
