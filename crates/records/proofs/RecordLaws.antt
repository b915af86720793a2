-- Laws of records in bytes: read, written, there and back. Callers speak of records by these. Assumes nothing.
use mathlib.Core.Path.{◌≡◌, refl, sym, ap, ap₂, ◌∙◌}
use mathlib.Core.List.{List, [], ◌∷◌, ◌++◌, map, append_assoc}
use Prim.Native.Nat.{ℕ, zero, suc, ◌+◌, ◌*◌, ◌/◌, ◌%◌, ◌^◌, ◌≤◌, ◌<◌}
use native.Mathlib.Nat.{not-suc-le-zero, le_of_suc-le-suc}
use native.Mathlib.Numerals.{add-one}
use native.Mathlib.Omega.{arith}
use lib.ListN.{length, take, drop, get_or, length-append, length-drop, length-map, take-append-drop, drop_of_length-le}
use lib.Seq.{drop-cons, drop-drop, take-add, length-take-le, take_at, drop_at, take-append-le, take-take}
use Rattle.std.specs.Simd.{first_chunks}
use Rattle.std.proofs.lemmas.List.{drop-take, get_or-map}
use Rattle.theory.specs.Sums.{Every}
use Rattle.theory.specs.Focal.{weights, no_focal}
use Rattle.theory.specs.declared.Focal.{Focal}
use Rattle.numbers.specs.Numbers.{big_endian, number_at, Bytes}
use Rattle.numbers.proofs.Numbers.{number_split, number_lt, bytes_drop, bytes_take, big_endian-onto, read_back}
use Rattle.records.specs.Bytes.{AllBytes}
use Rattle.records.specs.Records.{key_of, keyed, bytes_of, encode, head_record, records, nth_interval, Under, speed_limit}
use Rattle.records.specs.Store.{replaced, holding}

-- ---- a record in bytes

-- Low and high of the record at byte k.
pub ends_are : (s : List ℕ) (k : ℕ) → (number_at s k 2 ≡ (head_record (drop k s)).low) × (number_at s (k + 2) 2 ≡ (head_record (drop k s)).high)
unfolding head_record
ends_are s k = (refl, rw drop-drop)

pub weight_is : (r : List ℕ) → 12 ≤ length r → number_at r 4 4 * 4294967296 + number_at r 8 4 ≡ (head_record r).weight
unfolding head_record
weight_is r h = sym (number_split r 4 4 4 h)

-- A key's bytes are those of low and high.
bytes_key : (key : ℕ) → big_endian 4 key ≡ big_endian 2 (key / speed_limit) ++ big_endian 2 (key % speed_limit)
unfolding big_endian
bytes_key key =
    let e0 : key / 16777216 % 256 ≡ key / 65536 / 256 % 256 = omega arith in
    let e1 : key / 65536 % 256 ≡ key / 65536 / 1 % 256 = omega arith in
    let e2 : key / 256 % 256 ≡ key % 65536 / 256 % 256 = omega arith in
    let e3 : key / 1 % 256 ≡ key % 65536 / 1 % 256 = omega arith in
    λ i. e0 i ∷ e1 i ∷ e2 i ∷ e3 i ∷ []

pub length_bytes_of : (r : Focal) → length (bytes_of r) ≡ 12
unfolding bytes_of big_endian
length_bytes_of r = refl

-- A key gives back its interval.
pub from_key : (f : Focal) → f.high < speed_limit → keyed (key_of f) f.weight ≡ f
from_key f h =
    let low : key_of f / speed_limit ≡ f.low = omega arith in
    let high : key_of f % speed_limit ≡ f.high = omega arith in
    λ t. record { low = low t; high = high t; weight = f.weight }

-- ---- lists of records

pub length-encode : (l : List Focal) → length (encode l) ≡ 12 * length l
unfolding encode
length-encode [] = refl
length-encode (x ∷ xs) = length-append (bytes_of x) (encode xs) ∙ rw (length_bytes_of, length-encode xs) (omega arith)

pub encode_append : (a b : List Focal) → encode (a ++ b) ≡ encode a ++ encode b
unfolding encode
encode_append [] b = refl
encode_append (x ∷ xs) b = rw (encode_append xs b) (sym (append_assoc (bytes_of x) (encode xs) (encode b)))

pub length-records : (n : ℕ) (s : List ℕ) → length (records n s) ≡ n
unfolding records
length-records zero s = refl
length-records (suc n) s = ap suc (length-records n (drop 12 s))

-- ---- a record written

-- The weight is stored, and then the key before it.
pub key_stored : (s : List ℕ) (key weight p : ℕ) → p + 12 ≤ length s → (t : List ℕ) → t ≡ replaced s (p + 4) 8 (big_endian 8 weight)
    → replaced t p 4 (big_endian 4 key) ≡ replaced s p 12 (bytes_of (keyed key weight))
unfolding bytes_of
key_stored s key weight p hs t te =
    let z : List ℕ = big_endian 8 weight ++ drop (p + 4 + 8) s in
    let l : length (take (p + 4) s) ≡ p + 4 = length-take-le (p + 4) s (omega arith) in
    let e : p + 4 + 8 ≡ p + 12 = omega arith in
    let front : take p t ≡ take p s = ap (take p) te ∙ take-append-le p (take (p + 4) s) z (omega arith) ∙ take-take p (p + 4) s (omega arith) in
    let rest : drop (p + 4) t ≡ big_endian 8 weight ++ drop (p + 12) s =
    ap (drop (p + 4)) te ∙ drop_at (take (p + 4) s) z (p + 4) l ∙ ap (λ (n : ℕ). big_endian 8 weight ++ drop n s) e in
    (λ i. front i ++ (bytes_key key i ++ rest i)) ∙ simp append_assoc

big_endian_at : (s : List ℕ) (a n : ℕ) → Bytes s → a + n ≤ length s → big_endian n (number_at s a n) ≡ take n (drop a s)
big_endian_at s a n h k =
    let l : length (take n (drop a s)) ≡ n = length-take-le n (drop a s) (rw length-drop (omega arith)) in
    ap (λ (m : ℕ). big_endian m (number_at s a n)) (sym l) ∙ big_endian-onto 0 (take n (drop a s)) (bytes_take n (drop a s) (bytes_drop a s h))

-- ---- there and back

bytes_head : (s : List ℕ) → Bytes s → 12 ≤ length s → bytes_of (head_record s) ≡ take 12 s
unfolding bytes_of head_record
bytes_head s h k =
    rw (big_endian_at s 0 2 h (omega arith), big_endian_at s 2 2 h (omega arith), big_endian_at s 4 8 h (omega arith))
    (ap (λ (l : List ℕ). take 2 s ++ l) (ap (λ (l : List ℕ). take 2 (drop 2 s) ++ take 8 l) (sym (drop-drop 2 2 s)) ∙ sym (take-add 2 8 (drop 2 s))) ∙ sym (take-add 2 10 s))

pub encode-records : (n : ℕ) (s : List ℕ) → Bytes s → 12 * n ≤ length s → encode (records n s) ≡ take (12 * n) s
unfolding encode records
encode-records zero s h k = refl
encode-records (suc n) s h k =
    let e : 12 + 12 * n ≡ 12 * suc n = omega arith in
    let l : 12 * n ≤ length (drop 12 s) = rw length-drop (omega arith) in
    rw (bytes_head s h (omega arith), encode-records n (drop 12 s) (bytes_drop 12 s h) l) (sym (take-add 12 (12 * n) s) ∙ ap (λ (m : ℕ). take m s) e)

pub holds : (n : ℕ) (s : List ℕ) → Bytes s → 12 * n ≤ length s → s ≡ holding s (records n s)
holds n s h k = rw (encode-records n s h k, length-records) (sym (take-append-drop (12 * n) s))

head_back : (r : Focal) (t : List ℕ) → Under speed_limit r → r.weight < 2 ^ 64 → head_record (bytes_of r ++ t) ≡ r
unfolding head_record bytes_of big_endian
head_back r t u hw = λ i. record { low = read_back 2 r.low u.0 i; high = read_back 2 r.high u.1 i; weight = read_back 8 r.weight hw i }

drop_back : (r : Focal) (t : List ℕ) → drop 12 (bytes_of r ++ t) ≡ t
unfolding bytes_of big_endian
drop_back r t = refl

-- Weights fit 64 bits where their sum does.
pub records-encode : {l : List Focal} (t : List ℕ) → Every (Under speed_limit) l → weights l < 2 ^ 64 → records (length l) (encode l ++ t) ≡ l
unfolding records encode
records-encode t Every.none h = refl
records-encode t (Every.more {x = f} {xs = fs} u r) h =
    rw append_assoc (rw (head_back f (encode fs ++ t) u (omega arith), drop_back f (encode fs ++ t), records-encode t r (omega arith)))

pub head_under : (s : List ℕ) → Bytes s → Under speed_limit (head_record s)
unfolding head_record
head_under s h = (number_lt s 0 2 h, number_lt s 2 2 h)

pub records_under : (n : ℕ) (s : List ℕ) → Bytes s → Every (Under speed_limit) (records n s)
unfolding records
records_under zero s h = Every.none
records_under (suc n) s h = Every.more (head_under s h) (records_under n (drop 12 s) (bytes_drop 12 s h))

-- ---- bytes cut into records

head_cut : (s : List ℕ) → head_record (take 12 s) ≡ head_record s
unfolding head_record
head_cut s =
    rw (
      drop-take 2 10 s,
      drop-take 4 8 s,
      take-take 2 12 s (omega arith),
      take-take 2 10 (drop 2 s) (omega arith),
      take-take 8 8 (drop 4 s) (omega arith),
    )

-- The first n of m.
pub cut_records : (n m : ℕ) (s : List ℕ) → n ≤ m → map head_record (take n (first_chunks 12 m s)) ≡ records n s
unfolding records
cut_records zero m s h = refl
cut_records (suc n) zero s h = absurd (not-suc-le-zero h)
cut_records (suc n) (suc m) s h = ap₂ ◌∷◌ (head_cut s) (cut_records n m (drop 12 s) (le_of_suc-le-suc h))

pub cut_bytes : (n m : ℕ) (s : List ℕ) → Bytes s → AllBytes (take n (first_chunks 12 m s))
cut_bytes zero m s h i = λ j. omega arith
cut_bytes (suc n) zero s h i = λ j. omega arith
cut_bytes (suc n) (suc m) s h zero = bytes_take 12 s h
cut_bytes (suc n) (suc m) s h (suc i) = cut_bytes n m (drop 12 s) (bytes_drop 12 s h) i

-- ---- records that stand one behind the other

pub record_is : (rs : List (List ℕ)) (i : ℕ) (d : List ℕ) → i < length rs → nth_interval (map head_record rs) i ≡ head_record (get_or rs i d)
record_is rs i d h = get_or-map head_record rs i d no_focal h

-- A walk along them takes one after the other.
pub walk_next : (rs : List (List ℕ)) (i : ℕ) → i < length rs → drop i (map head_record rs) ≡ head_record (get_or rs i []) ∷ drop (i + 1) (map head_record rs)
walk_next rs i h =
    let l : i < length (map head_record rs) = rw length-map h in
    rw (drop-cons (map head_record rs) i no_focal l, add-one, record_is rs i [] h)

pub walk_end : (rs : List (List ℕ)) (i : ℕ) → length rs ≤ i → drop i (map head_record rs) ≡ []
walk_end rs i h = drop_of_length-le (map head_record rs) {i = i} (rw length-map h)

-- Their ends have 16 bits each.
pub walk_under : (rs : List (List ℕ)) → AllBytes rs → Every (Under speed_limit) (map head_record rs)
walk_under [] h = Every.none
walk_under (r ∷ rs) h = Every.more (head_under r (h 0)) (walk_under rs (λ i. h (suc i)))

-- ---- a list cut in two

module _ (l : List Focal) (t : List ℕ) (p : ℕ) (h : p ≤ length l) where
  cut_encode : encode l ++ t ≡ encode (take p l) ++ (encode (drop p l) ++ t)
  cut_encode = ap (λ (k : List Focal). encode k ++ t) (sym (take-append-drop p l)) ∙ rw (encode_append, append_assoc)

  pub take-encode : take (12 * p) (encode l ++ t) ≡ encode (take p l)
  take-encode =
      rw cut_encode (take_at (encode (take p l)) (encode (drop p l) ++ t) (12 * p) (rw (length-encode, length-take-le p l h)))

  pub drop-encode : drop (12 * p) (encode l ++ t) ≡ encode (drop p l) ++ t
  drop-encode =
      rw cut_encode (drop_at (encode (take p l)) (encode (drop p l) ++ t) (12 * p) (rw (length-encode, length-take-le p l h)))
