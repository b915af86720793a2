-- Lists one behind the other in a store: what stands where after a list was put behind the others or moved, and the list at the front.
-- Assumes nothing.
use mathlib.Core.Path.{◌≡◌, refl, sym, ap, ◌∙◌}
use mathlib.Core.List.{List, ◌++◌, append_assoc}
use Prim.Native.Nat.{ℕ, zero, suc, ◌+◌, ◌*◌, ◌-◌, ◌^◌, ◌≤◌, ◌<◌}
use native.Mathlib.Omega.{arith}
use lib.ListN.{length, take, drop, length-append, length-drop, take-append-drop, replicate}
use lib.Seq.{drop-drop, drop_at, length-take-le, take-append-le, drop-append-le, drop-append-add}
use Rattle.std.specs.List.{copy_within}
use Rattle.theory.specs.Sums.{Every}
use Rattle.theory.specs.Focal.{weights}
use Rattle.theory.specs.declared.Focal.{Focal}
use Rattle.numbers.specs.Numbers.{number_at, Bytes}
use Rattle.numbers.proofs.Numbers.{bytes_drop}
use Rattle.records.specs.Records.{encode, head_record, records, Under, speed_limit}
use Rattle.records.specs.declared.Span.{Span}
use Rattle.records.specs.Store.{zeroed, holding, list_in, list_of_span, holding_from, moved, settled}
use Rattle.records.proofs.RecordLaws.{encode-records, length-encode, length-records, records-encode}

-- ---- the first n records lie in the first 12 * n bytes

number_front : (x t : List ℕ) (a n : ℕ) → a + n ≤ length x → number_at (x ++ t) a n ≡ number_at x a n
number_front x t a n h = rw (drop-append-le a x t (omega arith), take-append-le n (drop a x) t (rw length-drop (omega arith)))

records-append : (n : ℕ) (x t : List ℕ) → 12 * n ≤ length x → records n (x ++ t) ≡ records n x
unfolding records head_record
records-append zero x t h = refl
records-append (suc n) x t h =
    rw (number_front x t 0 2 (omega arith), number_front x t 2 2 (omega arith), number_front x t 4 8 (omega arith), drop-append-le 12 x t (omega arith), records-append n (drop 12 x) t (rw length-drop (omega arith)))

-- A list in the first `free` bytes stands in these,
front_holds : (s : List ℕ) (free start n : ℕ) → free ≤ length s → start + 12 * n ≤ free → records n (drop start (take free s)) ≡ list_in s start n
front_holds s free start n h k =
    let l : length (take free s) ≡ free = length-take-le free s h in
    sym (records-append n (drop start (take free s)) (drop free s) (rw length-drop (omega arith)))
    ∙ ap (records n) (sym (drop-append-le start (take free s) (drop free s) (omega arith)) ∙ ap (drop start) (take-append-drop free s))

-- and is read from its own bytes.
pub part_holds : (s : List ℕ) (free start n : ℕ) → free ≤ length s → start + 12 * n ≤ free → records n (take (12 * n) (drop start (take free s))) ≡ list_in s start n
part_holds s free start n h k =
    let d : List ℕ = drop start (take free s) in
    let m : 12 * n ≤ length d = rw (length-drop, length-take-le free s h) (omega arith) in
    let l : 12 * n ≤ length (take (12 * n) d) = rw (length-take-le (12 * n) d m) (omega arith) in
    sym (records-append n (take (12 * n) d) (drop (12 * n) d) l) ∙ ap (records n) (take-append-drop (12 * n) d) ∙ front_holds s free start n h k

-- ---- a buffer that holds a list

pub length-holding : (s : List ℕ) (l : List Focal) → 12 * length l ≤ length s → length (holding s l) ≡ length s
length-holding s l h = length-append (encode l) (drop (12 * length l) s) ∙ rw (length-encode, length-drop) (omega arith)

-- Bytes behind the list are as they were.
holding_behind : (s : List ℕ) (l : List Focal) (end : ℕ) → 12 * length l ≤ end → drop end (holding s l) ≡ drop end s
holding_behind s l end h =
    let m : ℕ = end - 12 * length l in
    let e : end ≡ length (encode l) + m = rw length-encode (omega arith) in
    let e2 : 12 * length l + m ≡ end = omega arith in
    ap (λ (n : ℕ). drop n (holding s l)) e ∙ drop-append-add (encode l) (drop (12 * length l) s) m ∙ drop-drop m (12 * length l) s ∙ ap (λ (n : ℕ). drop n s) e2

pub holding_over : (s : List ℕ) (l k : List Focal) → length l ≤ length k → holding (holding s l) k ≡ holding s k
holding_over s l k h = ap (λ (t : List ℕ). encode k ++ t) (holding_behind s l (12 * length k) (omega arith))

-- ---- a list behind the others

module _ (s : List ℕ) (free : ℕ) (l : List Focal) where
  pub length_from : free + 12 * length l ≤ length s → length (holding_from s free l) ≡ length s
  length_from h =
      length-append (take free s) (holding (drop free s) l)
      ∙ rw (length-take-le free s (omega arith), length-holding (drop free s) l (rw length-drop (omega arith)), length-drop) (omega arith)

  -- The new list stands there,
  pub list_in_from : free ≤ length s → Every (Under speed_limit) l → weights l < 2 ^ 64 → list_in (holding_from s free l) free (length l) ≡ l
  list_in_from h u t =
      rw (drop_at (take free s) (holding (drop free s) l) free (length-take-le free s h)) (records-encode (drop (12 * length l) (drop free s)) u t)

  -- every list before it stands as it stood,
  pub list_in_before : (start n : ℕ) → free ≤ length s → start + 12 * n ≤ free → list_in (holding_from s free l) start n ≡ list_in s start n
  list_in_before start n h k =
      let d : List ℕ = drop start (take free s) in
      let lt : length (take free s) ≡ free = length-take-le free s h in
      rw (drop-append-le start (take free s) (holding (drop free s) l) (omega arith))
      (records-append n d (holding (drop free s) l) (rw length-drop (omega arith)) ∙ front_holds s free start n h k)

  -- and later bytes are as they were.
  pub drop_from : (end : ℕ) → free + 12 * length l ≤ end → free ≤ length s → drop end (holding_from s free l) ≡ drop end s
  drop_from end h k =
      let t : List ℕ = holding (drop free s) l in
      let lt : length (take free s) ≡ free = length-take-le free s k in
      let e : end ≡ length (take free s) + (end - free) = omega arith in
      let e2 : free + (end - free) ≡ end = omega arith in
      ap (λ (n : ℕ). drop n (take free s ++ t)) e ∙ drop-append-add (take free s) t (end - free)
      ∙ holding_behind (drop free s) l (end - free) (omega arith) ∙ drop-drop (end - free) free s ∙ ap (λ (n : ℕ). drop n s) e2

-- ---- a list that is moved, and the list at the front

module _ (s : List ℕ) (b : Bytes s) where
  pub moves : (list : Span) (start : ℕ) → list.start + 12 * list.count ≤ length s
      → copy_within s list.start (list.start + 12 * list.count) start ≡ moved s list start
  moves list start h =
      let l : List Focal = list_of_span s list in
      let n : length l ≡ list.count = length-records list.count (drop list.start s) in
      let bytes : encode l ≡ take (12 * list.count) (drop list.start s) =
      encode-records list.count (drop list.start s) (bytes_drop list.start s b) (rw length-drop (omega arith)) in
      let m : list.start + 12 * list.count - list.start ≡ 12 * list.count = omega arith in
      rw (m, bytes, n, drop-drop (12 * list.count) start s) (append_assoc (take start s) (take (12 * list.count) (drop list.start s)) (drop (start + 12 * list.count) s))

  pub settles : (n end : ℕ) → 12 * n ≤ length s → zeroed s (12 * n) end ≡ settled end (records n s) s
  settles n end h = rw (encode-records n s b h, length-records n s) refl

-- It is read back there.
pub settled_list : (end : ℕ) (s : List ℕ) {l : List Focal} → Every (Under speed_limit) l → weights l < 2 ^ 64 → records (length l) (settled end l s) ≡ l
settled_list end s {l} u w = records-encode (replicate (end - 12 * length l) 0 ++ drop end s) u w
