-- The place of an interval in a list: what a search goes by, and what an insertion does there. The one comparison of keys is the order of
-- intervals: a change of the order changes `key_lt` and what it gives. Assumes nothing.
use mathlib.Core.Path.{◌≡◌, refl, sym, ap, ◌∙◌}
use mathlib.Core.Bool.{Bool, true, false, cond}
use mathlib.Core.Logic.{⊎_elim, inl, inr}
use mathlib.Core.List.{List, [], ◌∷◌, ◌++◌, map}
use Prim.Native.Nat.{ℕ, zero, suc, ◌+◌, ◌-◌, ◌≤◌, ◌<◌, Ordering}
use Prim.Native.Nat.compare
use native.Mathlib.Nat.{not-suc-le-zero, le_of_suc-le-suc, eq-or-lt_of_le}
use native.Mathlib.Omega.{arith}
use lib.Dec.{ltb, eqb, compare_is_eq}
use lib.ListN.{length, get_or, take, drop, length-map, length-drop, take-append-drop, drop_of_length-le}
use lib.Seq.{drop-cons, length-take-le, get_or-take, get_or-drop}
use borrow.Author.Tests.{ltb-true, ltb-false, lt-ltb, le-ltb, eq-eqb, ne_eqb}
use Rattle.std.specs.List.Sorted.{IsPartitionedBy, IsPartitionPoint}
use Rattle.theory.specs.Sums.{Every}
use Rattle.theory.specs.Focal.{focal, no_focal}
use Rattle.theory.specs.declared.Focal.{Focal}
use Rattle.theory.specs.Order.{order, Before, InOrder, inserted}
use Rattle.theory.proofs.Order.{Placed, placed, before_trans, order_before}
use Rattle.theory.proofs.Every.{index_of_every}
use Rattle.theory.proofs.Lists.{insert_skip, insert_here, insert_same}
use Rattle.numbers.specs.Numbers.{Bytes}
use Rattle.records.specs.Records.{head_record, key_of, keyed, records, records_of, nth_interval, speed_limit}
use Rattle.records.specs.declared.view.Records.{Records}
use Rattle.records.specs.Insertion.{is_before, place}
use Rattle.records.proofs.RecordLaws.{head_under, length-records, record_is}

-- ---- what the order of two intervals says

by_order : (P : Ordering → Type 0) (f g : Focal) → (Before f g → P Ordering.lt) → (f.low ≡ g.low → f.high ≡ g.high → P Ordering.eq)
    → (Before g f → P Ordering.gt) → P (order f g)
by_order P f g a b c = go (order f g) (placed f g)
  where
    go : (o : Ordering) → Placed f g o → P o
    go Ordering.lt (Placed.before p) = a p
    go Ordering.eq (Placed.same p q) = b p q
    go Ordering.gt (Placed.after p) = c p

differ : {A : Type 0} → true ≡ false → A
differ e = let z : ◌≡◌ {A = ℕ} 0 1 = cc in absurd (omega arith)

before_true : (f g : Focal) → is_before (order f g) ≡ true → Before f g
before_true f g = by_order (λ o. is_before o ≡ true → Before f g) f g (λ b e. b) (λ p q e. differ (sym e)) (λ b e. differ (sym e))

same_true : (f g : Focal) → compare_is_eq (order f g) ≡ true → (f.low ≡ g.low) × (f.high ≡ g.high)
same_true f g = by_order (λ o. compare_is_eq o ≡ true → (f.low ≡ g.low) × (f.high ≡ g.high)) f g (λ b e. differ (sym e)) (λ p q e. (p, q)) (λ b e. differ (sym e))

neither : (f g : Focal) → is_before (order f g) ≡ false → compare_is_eq (order f g) ≡ false → Before g f
neither f g = by_order (λ o. is_before o ≡ false → compare_is_eq o ≡ false → Before g f) f g (λ b e k. differ e) (λ p q e k. differ k) (λ b e k. b)

-- ---- keys

key_lt : (f g : Focal) → f.high < speed_limit → g.high < speed_limit → Before f g → key_of g < key_of f
key_lt f g u v (inl h) = omega arith
key_lt f g u v (inr h) = omega arith

-- A record's key is tested against another key.
pub key_tests : (r : List ℕ) (key : ℕ) → Bytes r → let f = head_record r in
    (ltb key (key_of f) ≡ is_before (order f (keyed key 0))) × (eqb (key_of f) key ≡ compare_is_eq (order f (keyed key 0)))
key_tests r key b =
    let f : Focal = head_record r in
    let g : Focal = keyed key 0 in
    let u : f.high < speed_limit = (head_under r b).1 in
    let v : g.high < speed_limit = omega arith in
    by_order (λ o. (ltb key (key_of f) ≡ is_before o) × (eqb (key_of f) key ≡ compare_is_eq o)) f g
    (λ h. (lt-ltb key (key_of f) (omega (arith, key_lt f g u v h)), ne_eqb (key_of f) key (λ e. omega (arith, key_lt f g u v h))))
    (λ p q. (le-ltb key (key_of f) (omega arith), eq-eqb (key_of f) key (omega arith)))
    (λ h. (le-ltb key (key_of f) (omega (arith, key_lt g f v u h)), ne_eqb (key_of f) key (λ e. omega (arith, key_lt g f v u h))))

-- ---- the place

pub place_within : (f : Focal) (l : List Focal) → place f l ≤ length l
place_within f [] = omega arith
place_within f (g ∷ gs) = go (is_before (order g f)) (place_within f gs)
  where
    go : (b : Bool) → place f gs ≤ length gs → cond b (suc (place f gs)) 0 ≤ suc (length gs)
    go true h = omega arith
    go false h = omega arith

-- An interval with another weight.
abbrev pub with_weight : Focal → ℕ → Focal
with_weight f weight = focal f.low f.high weight

-- The place does not go by the weight.
pub place-weight : (f : Focal) (weight : ℕ) (l : List Focal) → place f l ≡ place (with_weight f weight) l
place-weight f w [] = refl
place-weight f w (g ∷ gs) = ap (λ (n : ℕ). cond (is_before (order g f)) (suc n) 0) (place-weight f w gs)

-- All in front of the place come before,
place_front : (f : Focal) (l : List Focal) → Every (λ g. Before g f) (take (place f l) l)
place_front f [] = Every.none
place_front f (g ∷ gs) = go (is_before (order g f)) refl (place_front f gs)
  where
    go : (b : Bool) → is_before (order g f) ≡ b → Every (λ h. Before h f) (take (place f gs) gs) → Every (λ h. Before h f) (take (cond b (suc (place f gs)) 0) (g ∷ gs))
    go true e r = Every.more (before_true g f e) r
    go false e r = Every.none

-- and the one at it does not.
place_stop : (f : Focal) (l : List Focal) → place f l < length l → is_before (order (nth_interval l (place f l)) f) ≡ false
place_stop f [] h = absurd (not-suc-le-zero h)
place_stop f (g ∷ gs) h = go (is_before (order g f)) refl (place_stop f gs) h
  where
    go : (b : Bool) → is_before (order g f) ≡ b → (place f gs < length gs → is_before (order (nth_interval gs (place f gs)) f) ≡ false)
        → cond b (suc (place f gs)) 0 < suc (length gs) → is_before (order (nth_interval (g ∷ gs) (cond b (suc (place f gs)) 0)) f) ≡ false
    go true e r h = r (le_of_suc-le-suc h)
    go false e r h = e

-- In a list in order exactly those in front of the place come before.
in_front : (f : Focal) {l : List Focal} → InOrder l → (m : ℕ) → m < length l → is_before (order (nth_interval l m) f) ≡ ltb m (place f l)
in_front f InOrder.none m h = absurd (not-suc-le-zero h)
in_front f (InOrder.more {f = g} {fs = gs} b r) zero h = go (is_before (order g f))
  where
    go : (x : Bool) → x ≡ ltb 0 (cond x (suc (place f gs)) 0)
    go true = sym (lt-ltb 0 (suc (place f gs)) (omega arith))
    go false = refl
in_front f (InOrder.more {f = g} {fs = gs} b r) (suc m) h =
    go (is_before (order g f)) (is_before (order (nth_interval gs m) f)) refl refl (in_front f r m (le_of_suc-le-suc h))
  where
    go : (x y : Bool) → is_before (order g f) ≡ x → is_before (order (nth_interval gs m) f) ≡ y → y ≡ ltb m (place f gs)
        → y ≡ ltb (suc m) (cond x (suc (place f gs)) 0)
    go true y e k i = rw compare.suc-suc i
    go false false e k i = sym (le-ltb (suc m) 0 (omega arith))
    go false true e k i =
        let p : Before g f = before_trans g (nth_interval gs m) f (index_of_every no_focal b m (le_of_suc-le-suc h)) (before_true (nth_interval gs m) f k) in
        differ (sym (ap is_before (order_before g f p)) ∙ e)

-- A test of record m is whether it lies in front of the place.
tested : (rs : List (List ℕ)) (f : Focal) (m : ℕ) (d : List ℕ) → InOrder (map head_record rs) → m < length rs
    → is_before (order (head_record (get_or rs m d)) f) ≡ ltb m (place f (map head_record rs))
tested rs f m d o h = ap (λ (g : Focal). is_before (order g f)) (sym (record_is rs m d h)) ∙ in_front f o m (rw length-map h)

module _ (r : Records) (key m : ℕ) {b : Bool} (o : InOrder (records_of r)) (h : m < length r.records.now)
    (e : b ≡ is_before (order (head_record (get_or r.records.now m [])) (keyed key 0)))
  where
    pub tested_above : b ≡ true → m < place (keyed key 0) (records_of r)
    tested_above t = ltb-true m (place (keyed key 0) (records_of r)) (sym (tested r.records.now (keyed key 0) m [] o h) ∙ sym e ∙ t)

    pub tested_below : b ≡ false → place (keyed key 0) (records_of r) ≤ m
    tested_below t = ltb-false m (place (keyed key 0) (records_of r)) (sym (tested r.records.now (keyed key 0) m [] o h) ∙ sym e ∙ t)

pub place_count : (f : Focal) (r : Records) → place f (records_of r) ≤ length r.records.now
place_count f r = omega (arith, place_within f (records_of r), length-map r.records.now head_record)

pub place_in : (f : Focal) (n : ℕ) (s : List ℕ) → place f (records n s) ≤ n
place_in f n s = omega (arith, place_within f (records n s), length-records n s)

-- ---- a search of the records from one to another

module _ (rs : List (List ℕ)) (f : Focal) (o : InOrder (map head_record rs)) (from to : ℕ) (h : to ≤ length rs) where
  abbrev p : ℕ
  p = place f (map head_record rs)

  abbrev part : List (List ℕ)
  part = take (to - from) (drop from rs)

  abbrev comes_before : List ℕ → Bool
  comes_before r = is_before (order (head_record r) f)

  size : length part ≡ to - from
  size = length-take-le (to - from) (drop from rs) (rw length-drop (omega arith))

  in_part : (m : ℕ) (d : List ℕ) → m < length part → comes_before (get_or part m d) ≡ ltb (from + m) p
  in_part m d k =
      ap comes_before (get_or-take (to - from) (drop from rs) m d (omega (arith, size)) ∙ get_or-drop from rs m d) ∙ tested rs f (from + m) d o (omega (arith, size))

  parted : IsPartitionedBy comes_before part
  parted i j d l k e =
      let v : from + j < p = ltb-true (from + j) p (sym (in_part j d k) ∙ e) in
      in_part i d (omega arith) ∙ lt-ltb (from + i) p (omega arith)

  pub bisected : from ≤ p → p ≤ to → (i : ℕ) → i ≤ length part
      → (IsPartitionedBy comes_before part → IsPartitionPoint (λ r. comes_before r ≡ true) (λ r. comes_before r ≡ false) part i) → from + i ≡ p
  bisected low high i k found =
      let point = found parted in
      let below : i < length part → p ≤ from + i = λ q. ltb-false (from + i) p (sym (in_part i [] q) ∙ point.1 i [] (omega arith) q) in
      let above : p - from < i → from + (p - from) < p =
      λ q. ltb-true (from + (p - from)) p (sym (in_part (p - from) [] (omega arith)) ∙ point.0 (p - from) [] (omega arith) q) in
      grind (arith, size)

-- ---- an insertion, from the place

split : (f : Focal) (l : List Focal) → inserted f l ≡ take (place f l) l ++ inserted f (drop (place f l) l)
split f l = ap (inserted f) (sym (take-append-drop (place f l) l)) ∙ insert_skip f (place_front f l) (drop (place f l) l)

pub insert_met : (f : Focal) (l : List Focal) → place f l < length l → compare_is_eq (order (nth_interval l (place f l)) f) ≡ true
    → inserted f l ≡ take (place f l) l ++ (with_weight f (f.weight + (nth_interval l (place f l)).weight) ∷ drop (suc (place f l)) l)
insert_met f l h e =
    let p : ℕ = place f l in
    let g : Focal = nth_interval l p in
    let s : (g.low ≡ f.low) × (g.high ≡ f.high) = same_true g f e in
    split f l
    ∙ ap (λ (k : List Focal). take p l ++ k) (ap (inserted f) (drop-cons l p no_focal h) ∙ insert_same f g (sym s.0) (sym s.1) (drop (suc p) l))
    ∙ (λ i. take p l ++ (focal (s.0 i) (s.1 i) (f.weight + g.weight) ∷ drop (suc p) l))

pub insert_new : (f : Focal) (l : List Focal) → (place f l < length l → compare_is_eq (order (nth_interval l (place f l)) f) ≡ false)
    → inserted f l ≡ take (place f l) l ++ (f ∷ drop (place f l) l)
insert_new f l e =
    let p : ℕ = place f l in
    split f l ∙ ap (λ (k : List Focal). take p l ++ k)
    (⊎_elim
    (λ q. let d : drop p l ≡ [] = drop_of_length-le l {i = p} (omega arith) in ap (inserted f) d ∙ ap (λ (k : List Focal). f ∷ k) (sym d))
    (λ h.
    let d : drop p l ≡ nth_interval l p ∷ drop (suc p) l = drop-cons l p no_focal h in
    ap (inserted f) d ∙ insert_here f (nth_interval l p) (neither (nth_interval l p) f (place_stop f l h) (e h)) (drop (suc p) l) ∙ ap (λ (k : List Focal). f ∷ k) (sym d))
    (eq-or-lt_of_le (place_within f l)))
