-- Fields in a row: what is put in is held, and bytes are known by the fields that they hold. Assumes nothing.
use mathlib.Core.Path.{◌≡◌, refl, sym, ◌∙◌}
use mathlib.Core.List.{List, [], ◌∷◌, ◌++◌}
use Prim.Native.Nat.{ℕ, zero, suc, ◌+◌, ◌*◌, ◌/◌, ◌%◌, ◌≤◌, ◌<◌}
use native.Mathlib.Nat.{add-zero, add_assoc, zero-add}
use native.Mathlib.Decide.{dec_lt, ℕ_discrete}
use native.Mathlib.Omega.{arith}
use lib.ListN.{length, drop}
use lib.Seq.{get_or-drop, drop-set-lt}
use Rattle.numbers.specs.Numbers.{Bytes}
use Rattle.field.specs.Bits.{bit, field_at, set_bit, put_at}
use Rattle.field.specs.Fields.{width_of, Fitting, Holds, put_all}
use Rattle.field.specs.declared.Field.{Field}
use Rattle.field.proofs.FieldLaws.{bit_lt, field_lt}
use Rattle.field.proofs.Put.{length_put_at, put_at_other, put_at_same, put_at_bytes, field_ext}

-- Two rows, one behind the other.
pub width_append : (fs gs : List Field) → width_of (fs ++ gs) ≡ width_of fs + width_of gs
unfolding width_of
width_append [] gs = sym (zero-add (width_of gs))
width_append (f ∷ fs) gs = rw (width_append fs gs, add_assoc)

pub fitting_append : (fs gs : List Field) → Fitting fs → Fitting gs → Fitting (fs ++ gs)
unfolding Fitting
fitting_append [] gs h k = k
fitting_append (f ∷ fs) gs h k = (h.0, fitting_append fs gs h.1 k)

pub holds_append : (s : List ℕ) (a : ℕ) (fs gs : List Field) → Holds s a fs → Holds s (a + width_of fs) gs → Holds s a (fs ++ gs)
unfolding Holds width_of
holds_append s a [] gs h k = rw add-zero at k
holds_append s a (f ∷ fs) gs h k = (h.0, holds_append s (a + f.width) fs gs h.1 (rw (add_assoc a f.width (width_of fs)) k))

pub holds_left : (s : List ℕ) (a : ℕ) (fs gs : List Field) → Holds s a (fs ++ gs) → Holds s a fs
unfolding Holds
holds_left s a [] gs h = tt
holds_left s a (f ∷ fs) gs h = (h.0, holds_left s (a + f.width) fs gs h.1)

pub holds_right : (s : List ℕ) (a : ℕ) (fs gs : List Field) → Holds s a (fs ++ gs) → Holds s (a + width_of fs) gs
unfolding Holds width_of
holds_right s a [] gs h = rw add-zero h
holds_right s a (f ∷ fs) gs h = rw (← add_assoc a f.width (width_of fs)) (holds_right s (a + f.width) fs gs h.1)

pub put_all_append : (s : List ℕ) (a : ℕ) (fs gs : List Field) → put_all s a (fs ++ gs) ≡ put_all (put_all s a fs) (a + width_of fs) gs
unfolding put_all width_of
put_all_append s a [] gs = rw add-zero
put_all_append s a (f ∷ fs) gs = rw (← add_assoc a f.width (width_of fs)) (put_all_append (put_at s a f.width f.value) (a + f.width) fs gs)

pub length_put_all : (s : List ℕ) (a : ℕ) (fs : List Field) → length (put_all s a fs) ≡ length s
unfolding put_all
length_put_all s a [] = refl
length_put_all s a (f ∷ fs) = length_put_all (put_at s a f.width f.value) (a + f.width) fs ∙ length_put_at s a f.width f.value

-- Bits before and behind stay.
pub put_all_other : (s : List ℕ) (a : ℕ) (fs : List Field) (j : ℕ) → a + width_of fs ≤ 8 * length s → (a ≤ j → j < a + width_of fs → ⊥)
    → bit (put_all s a fs) j ≡ bit s j
unfolding put_all width_of
put_all_other s a [] j h out = refl
put_all_other s a (f ∷ fs) j h out =
    let k : a + f.width + width_of fs ≤ 8 * length (put_at s a f.width f.value) = rw length_put_at (omega arith) in
    put_all_other (put_at s a f.width f.value) (a + f.width) fs j k (λ p q. out (omega arith) (omega arith))
    ∙ put_at_other s a f.width f.value j (omega arith) (λ p q. out p (omega arith))

pub put_all_bytes : (s : List ℕ) (a : ℕ) (fs : List Field) → a + width_of fs ≤ 8 * length s → Bytes s → Bytes (put_all s a fs)
unfolding put_all width_of
put_all_bytes s a [] h B = B
put_all_bytes s a (f ∷ fs) h B =
    let k : a + f.width + width_of fs ≤ 8 * length (put_at s a f.width f.value) = rw length_put_at (omega arith) in
    put_all_bytes (put_at s a f.width f.value) (a + f.width) fs k (put_at_bytes s a f.width f.value (omega arith) B)

-- What is put in is held.
pub put_all_holds : (s : List ℕ) (a : ℕ) (fs : List Field) → Fitting fs → a + width_of fs ≤ 8 * length s → Holds (put_all s a fs) a fs
unfolding put_all width_of Holds Fitting
put_all_holds s a [] g h = tt
put_all_holds s a (f ∷ fs) g h =
    let k : a + f.width + width_of fs ≤ 8 * length (put_at s a f.width f.value) = rw length_put_at (omega arith) in (
      field_ext (put_all (put_at s a f.width f.value) (a + f.width) fs) (put_at s a f.width f.value) a f.width
          (λ j p q. put_all_other (put_at s a f.width f.value) (a + f.width) fs j k (λ x y. omega arith))
          ∙ put_at_same s a f.width f.value (omega arith) g.0,
      put_all_holds (put_at s a f.width f.value) (a + f.width) fs g.1 k,
    )

-- Equal fields have equal bits.
pub field_inj : (s t : List ℕ) (a w : ℕ) → field_at s a w ≡ field_at t a w → (j : ℕ) → a ≤ j → j < a + w → bit s j ≡ bit t j
unfolding field_at
field_inj s t a zero e j p q = absurd (omega arith)
field_inj s t a (suc w) e j p q =
    let l : field_at s a w ≡ field_at t a w = omega (arith, e, bit_lt s (a + w), bit_lt t (a + w)) in
    let b : bit s (a + w) ≡ bit t (a + w) = omega (arith, e, l) in
    elim (ℕ_discrete j (a + w)) [
      | yes x ↦ rw x b
      | no x ↦ field_inj s t a w l j p (omega arith)
    ]

-- The same fields, the same bits.
pub holds_bits : (s t : List ℕ) (a : ℕ) (fs : List Field) → Holds s a fs → Holds t a fs → (j : ℕ) → a ≤ j → j < a + width_of fs → bit s j ≡ bit t j
unfolding Holds width_of
holds_bits s t a [] h k j p q = absurd (omega arith)
holds_bits s t a (f ∷ fs) h k j p q = elim (dec_lt j (a + f.width)) [
  | yes x ↦ field_inj s t a f.width (h.0 ∙ sym k.0) j p x
  | no x ↦ holds_bits s t (a + f.width) fs h.1 k.1 j (omega arith) (omega arith)
]

-- Bits, fields and rows of fields in the rest of a list from byte m.
pub bit-drop : (s : List ℕ) (m j : ℕ) → bit (drop m s) j ≡ bit s (8 * m + j)
unfolding bit
bit-drop s m j =
    let q : (8 * m + j) / 8 ≡ m + j / 8 = omega arith in
    let r : (8 * m + j) % 8 ≡ j % 8 = omega arith in
    rw (q, r, get_or-drop)

pub field_drop : (s : List ℕ) (m a w : ℕ) → field_at (drop m s) a w ≡ field_at s (8 * m + a) w
unfolding field_at
field_drop s m a zero = refl
field_drop s m a (suc w) = rw (field_drop s m a w, bit-drop s m (a + w), add_assoc (8 * m) a w)

pub holds_drop : (s : List ℕ) (m a : ℕ) (fs : List Field) → Holds s (8 * m + a) fs → Holds (drop m s) a fs
unfolding Holds
holds_drop s m a [] h = tt
holds_drop s m a (f ∷ fs) h = (field_drop s m a f.width ∙ h.0, holds_drop s m (a + f.width) fs (rw add_assoc at h.1))

pub holds_undrop : (s : List ℕ) (m a : ℕ) (fs : List Field) → Holds (drop m s) a fs → Holds s (8 * m + a) fs
unfolding Holds
holds_undrop s m a [] h = tt
holds_undrop s m a (f ∷ fs) h = (sym (field_drop s m a f.width) ∙ h.0, rw add_assoc (holds_undrop s m (a + f.width) fs h.1))

-- What is held fits.
pub holds_fitting : (s : List ℕ) (a : ℕ) (fs : List Field) → Holds s a fs → Fitting fs
unfolding Holds Fitting
holds_fitting s a [] h = tt
holds_fitting s a (f ∷ fs) h = (rw (← h.0) (field_lt s a f.width), holds_fitting s (a + f.width) fs h.1)

-- Bytes behind the fields stay.
set_bit_rest : (s : List ℕ) (j b n : ℕ) → j < 8 * n → drop n (set_bit s j b) ≡ drop n s
unfolding set_bit
set_bit_rest s j b n h = drop-set-lt n s (j / 8) _ (omega arith)

put_at_rest : (s : List ℕ) (a w v n : ℕ) → a + w ≤ 8 * n → drop n (put_at s a w v) ≡ drop n s
unfolding put_at
put_at_rest s a zero v n h = refl
put_at_rest s a (suc w) v n h = set_bit_rest (put_at s a w (v / 2)) (a + w) (v % 2) n (omega arith) ∙ put_at_rest s a w (v / 2) n (omega arith)

pub put_all_rest : (s : List ℕ) (a : ℕ) (fs : List Field) (n : ℕ) → a + width_of fs ≤ 8 * n → drop n (put_all s a fs) ≡ drop n s
unfolding put_all width_of
put_all_rest s a [] n h = refl
put_all_rest s a (f ∷ fs) n h =
    put_all_rest (put_at s a f.width f.value) (a + f.width) fs n (omega arith) ∙ put_at_rest s a f.width f.value n (omega arith)
