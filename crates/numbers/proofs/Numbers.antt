-- Laws of numbers in bytes: parts of a list, bytes put in one after the other, and numbers there and back. Assumes nothing.
use mathlib.Core.Path.{◌≡◌, refl, sym, ap, ◌∙◌}
use mathlib.Core.List.{List, [], ◌∷◌, ◌++◌, append_assoc}
use Prim.Native.Nat.{ℕ, zero, suc, ◌+◌, ◌*◌, ◌-◌, ◌/◌, ◌%◌, ◌^◌, ◌≤◌, ◌<◌}
use native.Mathlib.Nat.{add-zero, lt_of_lt_of_le, pow-le-pow_right, pow-suc, one-le-pow, div-one, div-div-eq-div-mul, mod-eq_of_lt, mod-one, add-mul, mul_assoc}
use native.Mathlib.Numerals.{add-one}
use native.Mathlib.Omega.{arith}
use lib.Arith.{digits_lt, digits_div, digits_mod, mod-mul}
use lib.ListN.{length, take, drop, get_or, set, take-append-drop, length-take, length-drop, length-append}
use lib.Seq.{take-suc, append_snoc, set_at, length-take-le, take_all, take_at, get_or-drop, drop-drop, drop-append-add}
use Rattle.numbers.specs.Numbers.{Bytes, big_endian, onto, number_at}

-- ---- parts of a list

-- The part from k to the end is the rest.
pub part_rest : (s : List ℕ) (k : ℕ) → take (length s - k) (drop k s) ≡ drop k s
part_rest s k = take_all (length s - k) (drop k s) (omega (arith, length-drop k s))

-- The store that goes in just before what stands behind a front part.
pub back : (s t : List ℕ) (k b : ℕ) → k < length s → set (take (k + 1) s ++ t) k b ≡ take k s ++ (b ∷ t)
back s t k b h =
    let hl : k ≤ length s = omega arith in
    rw (add-one, take-suc s k 0, append_snoc) (set_at (take k s) (get_or s k 0) t b k (length-take-le k s hl))

-- ---- bytes put in one after the other

-- e is s with xs put in from place k up to place m.
pub record Placed (s : List ℕ) (k m : ℕ) (xs e : List ℕ) : Type 0 where
  pub within : k ≤ length s
  pub up_to : m ≡ k + length xs
  pub is : e ≡ take k s ++ (xs ++ drop m s)

pub placed_none : (s : List ℕ) (k : ℕ) → k ≤ length s → Placed s k k [] s
placed_none s k h = record { within = h; up_to = sym (add-zero k); is = sym (take-append-drop k s) }

-- What is then put in at a, where xs end, up to n, with no change of length, stands behind xs.
pub placed_next : {s t e xs : List ℕ} {k m : ℕ} (a n : ℕ) (ys : List ℕ) → Placed s k m xs t → a ≡ m → a ≤ n → n ≤ length t → length e ≡ length t
    → e ≡ take a t ++ (ys ++ drop n t) → Placed s k n (xs ++ ys) e
placed_next {s} {t} {e} {xs} {k} {m} a n ys p f h g u q =
    let lengths : length e ≡ length (take a t ++ (ys ++ drop n t)) = ap length q in
    let room : n ≡ a + length ys = omega (arith, simp (length-append, length-take, length-drop) at lengths) in
    let front : List ℕ = take k s ++ xs in
    let l : length front ≡ a = rw (length-append, length-take-le k s p.within) (omega (arith, p.up_to)) in
    let t-is : t ≡ front ++ drop a s = rw f (p.is ∙ sym (append_assoc (take k s) xs (drop m s))) in
    let before : take a t ≡ front = ap (take a) t-is ∙ take_at front (drop a s) a l in
    let behind : drop n t ≡ drop n s = rw (t-is, room, ← l, drop-append-add, drop-drop) in
    record {
      within = p.within;
      up_to = omega (arith, p.up_to, length-append xs ys);
      is = q ∙ (λ i. before i ++ (ys ++ behind i)) ∙ simp append_assoc;
    }

-- ---- numbers in bytes

-- Seven bytes hold less than 2 ^ 56, and a number grows by a byte.
pub pow7 : (i : ℕ) → i ≤ 7 → 256 ^ i ≤ 72057594037927936
pow7 i h = pow-le-pow_right (omega arith) h

grow : (acc b i : ℕ) → acc < 256 ^ i → b < 256 → acc * 256 + b < 256 ^ (i + 1)
grow acc b i h k = rw (add-one, pow-suc) (digits_lt h k)

onto_snoc : (acc : ℕ) (bs : List ℕ) (b : ℕ) → onto acc (bs ++ (b ∷ [])) ≡ onto acc bs * 256 + b
unfolding onto
onto_snoc acc [] b = refl
onto_snoc acc (x ∷ xs) b = onto_snoc (acc * 256 + x) xs b

-- The number in one byte more.
pub number_next : (s : List ℕ) (a n : ℕ) → a + n < length s → number_at s a (n + 1) ≡ number_at s a n * 256 + get_or s (a + n) 0
number_next s a n h =
    let l : n < length (drop a s) = rw length-drop (omega arith) in
    rw (add-one, take-suc (drop a s) n 0, onto_snoc, get_or-drop)

-- A number in m bytes and n more is that in the m bytes, then that in the n.
pub number_split : (s : List ℕ) (a m n : ℕ) → a + m + n ≤ length s → number_at s a (m + n) ≡ number_at s a m * 256 ^ n + number_at s (a + m) n
unfolding onto
number_split s a m zero h = rw add-zero (omega arith)
number_split s a m (suc n) h =
    let e : m + suc n ≡ m + n + 1 = omega arith in
    let d : a + (m + n) ≡ a + m + n = omega arith in
    let p : number_at s (a + m) (suc n) ≡ number_at s (a + m) n * 256 + get_or s (a + m + n) 0 =
    ap (number_at s (a + m)) (sym (add-one n)) ∙ number_next s (a + m) n (omega arith) in
    rw (e, number_next s a (m + n) (omega arith), d, number_split s a m n (omega arith), p, pow-suc, add-mul, mul_assoc) (omega arith)

pub length-big_endian : (n v : ℕ) → length (big_endian n v) ≡ n
unfolding big_endian
length-big_endian zero v = refl
length-big_endian (suc n) v = ap suc (length-big_endian n _)

big_endian_next : (m v : ℕ) → big_endian (m + 1) v ≡ (v / 256 ^ m) % 256 ∷ big_endian m v
unfolding big_endian
big_endian_next m v = rw add-one

-- s with the last n - i of the n bytes of v put in from `at` on.
abbrev pub spelt : List ℕ → ℕ → ℕ → ℕ → ℕ → List ℕ
spelt s at n v i = take (at + i) s ++ (big_endian (n - i) v ++ drop (at + n) s)

pub spelt_none : (s : List ℕ) (at n v : ℕ) → s ≡ spelt s at n v n
unfolding big_endian
spelt_none s at n v = let e : n - n ≡ 0 = omega arith in rw e (sym (take-append-drop (at + n) s))

-- One byte more, before the others; what is left of v loses it.
pub spelt_more : (s t : List ℕ) (at n v x i : ℕ) → 0 < i → i ≤ n → at + n ≤ length s → x ≡ v / 256 ^ (n - i) → t ≡ spelt s at n v i
    → (x / 256 ≡ v / 256 ^ (n - (i - 1))) × (set t (at + (i - 1)) (x % 256) ≡ spelt s at n v (i - 1))
spelt_more s t at n v x i f g h p q =
    let k : ℕ = n - i in
    let e : n - (i - 1) ≡ k + 1 = omega arith in
    let e2 : at + i ≡ at + (i - 1) + 1 = omega arith in
    let u : List ℕ = big_endian k v ++ drop (at + n) s in
    let r : t ≡ take (at + (i - 1) + 1) s ++ u = rw (← e2) q in
    rw (e, big_endian_next, p, r)
    (rw (add-one, pow-suc) (div-div-eq-div-mul v (256 ^ k) 256), back s u (at + (i - 1)) (v / 256 ^ k % 256) (omega arith))

-- ---- numbers, there and back

-- Parts of bytes are bytes.
pub bytes_drop : (k : ℕ) (s : List ℕ) → Bytes s → Bytes (drop k s)
bytes_drop k s h i = rw get_or-drop (h (k + i))

pub bytes_take : (n : ℕ) (s : List ℕ) → Bytes s → Bytes (take n s)
bytes_take zero s h i = omega arith
bytes_take (suc n) [] h i = omega arith
bytes_take (suc n) (x ∷ xs) h zero = h zero
bytes_take (suc n) (x ∷ xs) h (suc i) = bytes_take n xs (λ j. h (suc j)) i

-- A number in n bytes is below 256 to the n.
onto_lt : (acc i : ℕ) (bs : List ℕ) → acc < 256 ^ i → Bytes bs → onto acc bs < 256 ^ (i + length bs)
unfolding onto
onto_lt acc i [] h b = rw add-zero h
onto_lt acc i (x ∷ bs) h b =
    let e : i + suc (length bs) ≡ i + 1 + length bs = omega arith in
    rw e (onto_lt (acc * 256 + x) (i + 1) bs (grow acc x i h (b 0)) (λ j. b (suc j)))

pub number_lt : (s : List ℕ) (a n : ℕ) → Bytes s → number_at s a n < 256 ^ n
number_lt s a n b =
    let bs : List ℕ = take n (drop a s) in
    let l : 0 + length bs ≤ n = simp length-take (omega arith) in
    lt_of_lt_of_le (onto_lt 0 0 bs (omega arith) (bytes_take n (drop a s) (bytes_drop a s b))) (pow-le-pow_right {n = 256} (omega arith) l)

onto_div : (acc : ℕ) (bs : List ℕ) → Bytes bs → onto acc bs / 256 ^ length bs ≡ acc
unfolding onto
onto_div acc [] h = div-one acc
onto_div acc (b ∷ bs) h =
    rw pow-suc (sym (div-div-eq-div-mul (onto (acc * 256 + b) bs) (256 ^ length bs) 256))
    ∙ ap (λ (n : ℕ). n / 256) (onto_div (acc * 256 + b) bs (λ i. h (suc i)))
    ∙ digits_div acc (h zero)

pub big_endian-onto : (acc : ℕ) (bs : List ℕ) → Bytes bs → big_endian (length bs) (onto acc bs) ≡ bs
unfolding onto big_endian
big_endian-onto acc [] h = refl
big_endian-onto acc (b ∷ bs) h =
    rw (onto_div (acc * 256 + b) bs (λ i. h (suc i)), digits_mod acc (h zero), big_endian-onto (acc * 256 + b) bs (λ i. h (suc i)))

onto-big_endian : (acc n v : ℕ) → onto acc (big_endian n v) ≡ acc * 256 ^ n + v % 256 ^ n
unfolding onto big_endian
onto-big_endian acc zero v = rw (mod-one) (omega arith)
onto-big_endian acc (suc n) v =
    onto-big_endian (acc * 256 + v / 256 ^ n % 256) n v
    ∙ let h : v % (256 * 256 ^ n) ≡ (v / 256 ^ n % 256) * 256 ^ n + v % 256 ^ n = mod-mul v (omega arith) (one-le-pow n 256 (omega arith)) in
    let e : 256 ^ suc n ≡ 256 * 256 ^ n = rw pow-suc (omega arith) in
    rw (e, h, add-mul, mul_assoc) (omega arith)

pub read_back : (n v : ℕ) → v < 256 ^ n → onto 0 (big_endian n v) ≡ v
read_back n v h = onto-big_endian 0 n v ∙ rw (mod-eq_of_lt h) (omega arith)

-- A number at the front is read back, and so is what stands behind it.
pub read_front : (n v : ℕ) (s : List ℕ) → v < 256 ^ n → number_at (big_endian n v ++ s) 0 n ≡ v
read_front n v s h = ap (onto 0) (take_at (big_endian n v) s n (length-big_endian n v)) ∙ read_back n v h

-- Behind n other bytes a number is read at its own place.
pub read_past : (xs s : List ℕ) (n k m : ℕ) → length xs ≡ n → number_at (xs ++ s) (n + k) m ≡ number_at s k m
read_past xs s n k m e = ap (λ (t : List ℕ). onto 0 (take m t)) (ap (λ j. drop (j + k) (xs ++ s)) (sym e) ∙ drop-append-add xs s k)

pub read_behind : (n v : ℕ) (s : List ℕ) (k m : ℕ) → number_at (big_endian n v ++ s) (n + k) m ≡ number_at s k m
read_behind n v s k m = read_past (big_endian n v) s n k m (length-big_endian n v)
