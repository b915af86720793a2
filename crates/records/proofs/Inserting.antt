-- One insertion into the records of a buffer: its answer, and every byte. Assumes nothing.
use mathlib.Core.Path.{◌≡◌, sym, ap, ◌∙◌}
use mathlib.Core.Bool.{Bool, true, false, ◌&&◌}
use mathlib.Core.List.{List, [], ◌∷◌, ◌++◌, append_assoc, append-nil}
use Prim.Native.Nat.{ℕ, suc, ◌+◌, ◌*◌, ◌-◌, ◌≤◌, ◌<◌}
use native.Mathlib.Omega.{arith}
use lib.Dec.{ltb, compare_is_eq}
use lib.ListN.{length, get_or, take, drop, length-append, length-drop, length-map, drop_of_length-le}
use lib.Seq.{length-take-le, take_all, take_at, drop_at, take-add, drop-drop}
use borrow.Rule.Slice.PartMut.{put_mid}
use Rattle.std.proofs.lemmas.Slice.{take-put_mid_below}
use borrow.Author.Tests.{le-leb, lt-leb, lt-ltb, ltb-true}
use Rattle.std.proofs.lemmas.Bool.{and_parts}
use Rattle.std.specs.Prelude.{◌≢◌, Result, Ok, Err}
use Rattle.std.specs.List.{copy_within}
use Rattle.theory.specs.Focal.{weights, no_focal}
use Rattle.theory.specs.declared.Focal.{Focal}
use Rattle.theory.specs.Order.{order, inserted}
use Rattle.theory.specs.Limits.{most_intervals}
use Rattle.theory.proofs.Sums.{sum_next, sum_take}
use Rattle.records.specs.declared.view.Records.{Records}
use Rattle.records.specs.Records.{bytes_of, encode, head_record, records, records_of, nth_interval, key_of, keyed, speed_limit}
use Rattle.records.specs.Store.{with_record, holding}
use Rattle.records.specs.Insertion.{place, insertion_of, insert_or_stay, Insertable}
use Rattle.numbers.specs.Numbers.{Bytes}
use Rattle.records.proofs.RecordLaws.{from_key, length-encode, length-records, encode_append, holds, record_is, take-encode, drop-encode}
use Rattle.records.proofs.Place.{with_weight, place-weight, place_within, insert_met, insert_new}

pub stay_fits : (f : Focal) (l : List Focal) → length (inserted f l) ≤ most_intervals → insert_or_stay f l ≡ inserted f l
stay_fits f l h = rw (le-leb (length (inserted f l)) most_intervals h)

pub stay_full : (f : Focal) (l : List Focal) → most_intervals < length (inserted f l) → insert_or_stay f l ≡ l
stay_full f l h = rw (lt-leb (length (inserted f l)) most_intervals h)

-- The first n records of s, cut at record p.
module _ (n : ℕ) (s : List ℕ) (b : Bytes s) (fit : 12 * n ≤ length s) (p : ℕ) (h : p ≤ n) where
  cut_front : take (12 * p) s ≡ encode (take p (records n s))
  cut_front = ap (take (12 * p)) (holds n s b fit) ∙ take-encode (records n s) (drop (12 * length (records n s)) s) p (rw length-records h)

  cut_back : drop (12 * p) s ≡ encode (drop p (records n s)) ++ drop (12 * n) s
  cut_back =
      ap (drop (12 * p)) (holds n s b fit) ∙ drop-encode (records n s) (drop (12 * length (records n s)) s) p (rw length-records h)
      ∙ ap (λ (k : ℕ). encode (drop p (records n s)) ++ drop (12 * k) s) (length-records n s)

  cut_mid : take (12 * n - 12 * p) (drop (12 * p) s) ≡ encode (drop p (records n s))
  cut_mid =
      ap (take (12 * n - 12 * p)) cut_back
      ∙ take_at (encode (drop p (records n s))) (drop (12 * n) s) (12 * n - 12 * p) (rw (length-encode, length-drop, length-records) (omega arith))

-- A front, one record and a back make one list.
spread : (x : List Focal) (f : Focal) (y : List Focal) (t : List ℕ) → encode x ++ (bytes_of f ++ (encode y ++ t)) ≡ encode (x ++ (f ∷ y)) ++ t
unfolding encode
spread x f y t = rw (encode_append, append_assoc, append_assoc)

-- In the bytes from a on the first m are moved up by one record.
moved_on : (s u : List ℕ) (a m : ℕ) → a + 12 + m ≤ length s → u ≡ copy_within (take (length s - a) (drop a s)) 0 m 12
    → put_mid a (length s - a) s u ≡ take (a + 12) s ++ (take m (drop a s) ++ drop (a + 12 + m) s)
moved_on s u a m h e =
    let d : List ℕ = drop a s in
    let size : length d ≡ length s - a = length-drop a s in
    let all : take (length s - a) d ≡ d = take_all (length s - a) d (omega arith) in
    let none : drop (length s - a) d ≡ [] = drop_of_length-le d {i = length s - a} (omega arith) in
    let rest : List ℕ = take m d ++ drop (a + 12 + m) s in
    let zero : m - 0 ≡ m = omega arith in
    let end : a + (12 + (m - 0)) ≡ a + 12 + m = omega arith in
    let far : drop (12 + (m - 0)) d ≡ drop (a + 12 + m) s = drop-drop (12 + (m - 0)) a s ∙ ap (λ (k : ℕ). drop k s) end in
    let part : u ≡ take 12 d ++ rest =
    e ∙ (λ i. copy_within (all i) 0 m 12) ∙ (λ i. take 12 d ++ take (zero i) d ++ far i) ∙ append_assoc (take 12 d) (take m d) (drop (a + 12 + m) s) in
    (λ i. take a s ++ (part i ++ none i))
    ∙ rw (append-nil, take-add) (sym (append_assoc (take a s) (take 12 d) rest))

-- What an insertion of f into the n records of s answers, and what it leaves: the bytes, and the length.
abbrev pub Inserted : ℕ → List ℕ → Focal → Result ℕ ℕ → List ℕ → ℕ → Type 0
Inserted n s f answer e count =
    let after : List Focal = insert_or_stay f (records n s) in
    (answer ≡ insertion_of f (records n s)) × (e ≡ holding s after) × (count ≡ length after)

module _ {n : ℕ} {s : List ℕ} (f : Focal) (r : Insertable s n f.weight) (u : f.high < speed_limit)
    (list : Records) (inside : 12 * n ≤ length s → records_of list ≡ records n s) (b : Bytes s)
    {key p : ℕ} (ke : key ≡ key_of f) (found : p ≡ place (keyed key 0) (records_of list))
  where
    abbrev l : List Focal
    l = records n s

    fit : 12 * n ≤ length s
    fit = omega arith

    read : records_of list ≡ l
    read = inside fit

    size : length list.records.now ≡ n
    size = sym (length-map list.records.now head_record) ∙ ap length read ∙ length-records n s

    key_back : keyed key 0 ≡ with_weight f 0
    key_back = ap (λ k. keyed k 0) ke ∙ from_key (with_weight f 0) u

    is_placed : p ≡ place f l
    is_placed = found ∙ (λ i. place (key_back i) (read i)) ∙ sym (place-weight f 0 l)

    -- Whether record p is there, and is the same interval.
    abbrev met : Bool
    met = ltb p (length list.records.now) && compare_is_eq (order (nth_interval (records_of list) p) (keyed key 0))

    met_is : met ≡ (ltb p n && compare_is_eq (order (nth_interval l p) f))
    met_is = λ i. ltb p (size i) && compare_is_eq (order (nth_interval (read i) p) (key_back i))

    answer_is : (m : ℕ) → length (inserted f l) ≡ m → m ≤ most_intervals → (e : List ℕ) → e ≡ holding s (inserted f l) → Inserted n s f (Ok p) e m
    answer_is m e h t k =
        let stay : insert_or_stay f l ≡ inserted f l = stay_fits f l (omega (arith, e)) in
        (rw (le-leb (length (inserted f l)) most_intervals (omega arith)) (ap Ok is_placed), k ∙ ap (holding s) (sym stay), sym (ap length stay ∙ e))

    -- It is. Then its weight is added.
    module _ {t : Bool} (te : t ≡ met) (yes : t ≡ true) {old : Focal} (oe : old ≡ head_record (get_or list.records.now p [])) where
      pub there : (p < n) × (compare_is_eq (order (nth_interval l p) f) ≡ true)
      there = let (q, e) = and_parts (ltb p n) (compare_is_eq (order (nth_interval l p) f)) (sym met_is ∙ sym te ∙ yes) in (ltb-true p n q, e)

      this : nth_interval l p ≡ old
      this = ap (λ (k : List Focal). nth_interval k p) (sym read) ∙ record_is list.records.now p [] (omega (arith, size, there.0)) ∙ sym oe

      pub weight_fits : old.weight ≤ weights l
      weight_fits =
          omega (
            arith,
            ap (λ (f : Focal). f.weight) this,
            sum_next (λ (f : Focal). f.weight) l p no_focal (rw length-records (there.0)),
            sum_take (λ (f : Focal). f.weight) (p + 1) l,
          )

      pub insert_at : let sum = with_weight f (f.weight + old.weight) in Inserted n s f (Ok p) (with_record s p sum) n
      insert_at =
          let h : p < n = there.0 in
          let sum : Focal = with_weight f (f.weight + old.weight) in
          let list_is : inserted f l ≡ take p l ++ (sum ∷ drop (suc p) l) =
          insert_met f l (rw (length-records, ← is_placed) h) (rw (← is_placed) (there.1)) ∙ rw (← is_placed, this) in
          let as_long : length (inserted f l) ≡ n =
          ap length list_is ∙ length-append (take p l) (sum ∷ drop (suc p) l)
          ∙ rw (length-take-le p l (rw length-records (omega arith)), length-drop, length-records) (omega arith) in
          let end : 12 * p + 12 ≡ 12 * suc p = omega arith in
          answer_is n as_long r.count (with_record s p sum)
          ((λ k. cut_front n s b fit p (omega arith) k ++ (bytes_of sum ++ (ap (λ (m : ℕ). drop m s) end ∙ cut_back n s b fit (suc p) h) k))
          ∙ spread (take p l) sum (drop (suc p) l) (drop (12 * n) s)
          ∙ (λ k. encode (sym list_is k) ++ drop (12 * sym as_long k) s))

    -- It is not, and so no record is.
    module _ {t : Bool} (te : t ≡ met) (no : t ≡ false) where
      absent : p < n → compare_is_eq (order (nth_interval l p) f) ≡ false
      absent h = sym (rw (lt-ltb p n h) at (te ∙ met_is)) ∙ no

      list_is : inserted f l ≡ take p l ++ (f ∷ drop p l)
      list_is = rw is_placed (insert_new f l (λ q. rw (← is_placed) (absent (omega (arith, is_placed, length-records n s)))))

      within : p ≤ n
      within = omega (arith, is_placed, place_within f l, length-records n s)

      longer : length (inserted f l) ≡ n + 1
      longer =
          ap length list_is ∙ length-append (take p l) (f ∷ drop p l)
          ∙ rw (length-take-le p l (rw length-records within), length-drop, length-records) (omega (arith, within))

      pub insert_in : n ≢ most_intervals → (t : List ℕ) → t ≡ copy_within (take (length s - 12 * p) (drop (12 * p) s)) 0 (12 * n - 12 * p) 12
          → Inserted n s f (Ok p) (with_record (put_mid (12 * p) (length s - 12 * p) s t) p f) (n + 1)
      insert_in m part e =
          let h : p ≤ n = within in
          let t : List ℕ = put_mid (12 * p) (length s - 12 * p) s part in
          let z : List ℕ = take (12 * n - 12 * p) (drop (12 * p) s) ++ drop (12 * (n + 1)) s in
          let end : 12 * p + 12 + (12 * n - 12 * p) ≡ 12 * (n + 1) = omega arith in
          let whole : t ≡ take (12 * p + 12) s ++ z = moved_on s part (12 * p) (12 * n - 12 * p) (omega arith) e ∙ rw end in
          let front : take (12 * p) t ≡ take (12 * p) s = take-put_mid_below (12 * p) (length s - 12 * p) s part (12 * p) (omega arith) (omega arith) in
          let rest : drop (12 * p + 12) t ≡ z =
          ap (drop (12 * p + 12)) whole ∙ drop_at (take (12 * p + 12) s) z (12 * p + 12) (length-take-le (12 * p + 12) s (omega arith)) in
          answer_is (n + 1) longer (omega arith) (with_record t p f)
          ((λ k. (front ∙ cut_front n s b fit p h) k ++ (bytes_of f ++ rest k))
          ∙ (λ k. encode (take p l) ++ (bytes_of f ++ (cut_mid n s b fit p h k ++ drop (12 * (n + 1)) s)))
          ∙ spread (take p l) f (drop p l) (drop (12 * (n + 1)) s)
          ∙ (λ k. encode (sym list_is k) ++ drop (12 * sym longer k) s))

      pub insert_over : n ≡ most_intervals → Inserted n s f (Err p) s n
      insert_over m =
          let full : most_intervals < length (inserted f l) = omega (arith, longer) in
          let stay : insert_or_stay f l ≡ l = stay_full f l full in
          (rw (lt-leb (length (inserted f l)) most_intervals full) (ap Err is_placed), holds n s b fit ∙ ap (holding s) (sym stay), sym (ap length stay ∙ length-records n s))
