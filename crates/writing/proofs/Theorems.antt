-- Both round trips, and the premises of the drive calculation, for every plan that the writer accepts and every sheet that the reader accepts. Assumes nothing.
use mathlib.Core.Path.{◌≡◌, sym, ap, ◌∙◌}
use mathlib.Core.List.{List, [], ◌∷◌, ◌++◌, map}
use Prim.Native.Nat.{ℕ, zero, suc, ◌+◌, ◌-◌, ◌*◌, ◌/◌, ◌≤◌, ◌<◌}
use native.Mathlib.Decide.{dec_lt}
use native.Mathlib.Omega.{arith}
use lib.ListN.{length, get_or, take, drop, length-drop, length-append, get_or-append}
use lib.Seq.{get_or-drop, get_or-take, length-take-le, get_or-append-add}
use Rattle.numbers.specs.Numbers.{Bytes}
use Rattle.field.specs.Bits.{bit}
use Rattle.field.specs.Fields.{bits, width_of, Holds, put_all}
use Rattle.field.specs.declared.Field.{Field}
use Rattle.field.proofs.Fields.{width_append, length_put_all, put_all_bytes, put_all_holds, put_all_other, put_all_rest, holds_fitting, holds_bits}
use Rattle.field.proofs.Put.{field_ext, bits_ext}
use Rattle.plan.specs.declared.Plan.{Plan}
use Rattle.reading.proofs.Decided.{decided, sound}
use Rattle.plan.specs.Plan.{components_of, codes_of, cleaned_plan}
use Rattle.plan.specs.Rules.{Sized}
use Rattle.reading.specs.Reading.{plan_in, read_of}
use Rattle.writing.specs.Writing.{number_of, length_of, block_fields, structure_fields, sheet_fields, written_of, bytes_after}
use Rattle.writing.proofs.Accepted.{number_accepts, accepts_number, written_number, written_length, refused_length, refused_stays, accepted_bytes, Accepted}
use Rattle.writing.proofs.Fits.{sheet_fits}
use Rattle.plan.specs.Valid.{Valid}
use Rattle.plan.proofs.Numbers.{none_broken}
use Rattle.plan.proofs.Valid.{counted, sized, valid}
use Rattle.writing.proofs.ReadBack.{reads_back}
use Rattle.writing.proofs.Sizes.{sizes, width_blocks, width_of_codes}
use Rattle.writing.proofs.WriteBack.{counts_kept, count_kept, length_at, sheet_held}

-- A sheet fills its bytes.
width_sheet : (p : Plan) → 1 ≤ p.count → width_of (sheet_fields p) ≡ 8 * length_of p
unfolding sheet_fields length_of width_of
width_sheet p h =
    rw (width_append (block_fields p) (structure_fields p), width_blocks (components_of p), width_append (map (bits 4) (codes_of p)) (bits 4 0 ∷ []), width_of_codes p)
    (omega arith)

bit_same : (s t : List ℕ) (j : ℕ) → get_or s (j / 8) 0 ≡ get_or t (j / 8) 0 → bit s j ≡ bit t j
unfolding bit
bit_same s t j e = rw e

holds_same : (s t : List ℕ) (a : ℕ) (fs : List Field) → ((j : ℕ) → a ≤ j → j < a + width_of fs → bit t j ≡ bit s j) → Holds s a fs → Holds t a fs
unfolding Holds width_of
holds_same s t a [] e h = tt
holds_same s t a (f ∷ fs) e h =
    (field_ext t s a f.width (λ j x y. e j x (omega arith)) ∙ h.0, holds_same s t (a + f.width) fs (λ j x y. e j (omega arith) (omega arith)) h.1)

module _ (p : Plan) (room : ℕ) (e : (written_of p room).number ≡ 0) where
  accepted : Accepted p room
  accepted = number_accepts p room (sym (written_number p room) ∙ e)

  -- An accepted plan meets the premises of the drive calculation.
  pub written_valid : Valid p
  written_valid = valid p accepted.three accepted.four accepted.others

  sized_plan : Sized p
  sized_plan = sized p accepted.three accepted.four

  -- An accepted plan is answered with its sheet's length.
  pub written_sheet : written_of p room ≡ record { number = 0; length = length_of p }
  written_sheet = written_length p room (sym (written_number p room) ∙ e)

  -- The longest sheet has 224 bytes.
  pub written_longest : (written_of p room).length ≤ 224
  written_longest = rw written_sheet (omega (arith, sizes p sized_plan))

-- A refused plan leaves the buffer, an accepted one the bytes behind the sheet.
pub nothing_written : (p : Plan) (s : List ℕ) (k : ℕ) → 0 < k → (written_of p (length s)).number ≡ k
    → ((written_of p (length s)).length ≡ 0) × (bytes_after p s ≡ s)
nothing_written p s k h e =
    let n : number_of p (length s) ≡ k = sym (written_number p (length s)) ∙ e in
    (refused_length p (length s) (omega arith), refused_stays p s (omega arith))

pub rest_kept : (p : Plan) (s : List ℕ) → (written_of p (length s)).number ≡ 0
    → drop (written_of p (length s)).length (bytes_after p s) ≡ drop (written_of p (length s)).length s
rest_kept p s e =
    rw (written_sheet p (length s) e, accepted_bytes p s (sym (written_number p (length s)) ∙ e))
    (put_all_rest s 0 (sheet_fields p) (length_of p) (omega (arith, width_sheet p (written_valid p (length s) e).least)))

-- A written sheet reads as its plan: the same in the used places, zero in the others.
pub written_is_read : (p : Plan) (s : List ℕ) → (written_of p (length s)).number ≡ 0
    → read_of (take (written_of p (length s)).length (bytes_after p s)) ≡ record { number = 0; plan = cleaned_plan p }
written_is_read p s e =
    let a = accepted p (length s) e in
    let k = written_valid p (length s) e in
    let z = sized_plan p (length s) e in
    let fs = sheet_fields p in
    let b = put_all s 0 fs in
    let t = take (length_of p) b in
    let w : width_of fs ≡ 8 * length_of p = width_sheet p k.least in
    let lb : length b ≡ length s = length_put_all s 0 fs in
    let h : Holds b 0 fs = put_all_holds s 0 fs (sheet_fits p z k) (omega (arith, a.fits, w)) in
    let g : Holds t 0 fs = holds_same b t 0 fs (λ j x y. bit_same t b j (get_or-take (length_of p) b (j / 8) 0 (omega (arith, w, y)))) h in
    let l : length t ≡ length_of p = length-take-le (length_of p) b (omega (arith, lb, a.fits)) in
    rw (written_sheet p (length s) e, accepted_bytes p s (sym (written_number p (length s)) ∙ e)) (reads_back t p z k g l a.others)

-- The plan of an accepted sheet meets the premises of the drive calculation.
pub read_valid : (s : List ℕ) → (read_of s).number ≡ 0 → Valid (read_of s).plan
read_valid s e =
    let a = sound s e in
    rw ((decided s).plan_is e) (valid (plan_in s) (count_kept s a) (counts_kept s a) (none_broken a.others))

bytes_append : (s t : List ℕ) → Bytes s → Bytes t → Bytes (s ++ t)
bytes_append [] t B C i = C i
bytes_append (x ∷ s) t B C zero = B 0
bytes_append (x ∷ s) t B C (suc i) = bytes_append s t (λ j. B (suc j)) C i

-- A read sheet is written back, byte for byte, and the bytes behind it stay.
pub read_is_written : (s t : List ℕ) → Bytes s → Bytes t → (read_of s).number ≡ 0 → length s ≤ length t
    → (written_of (read_of s).plan (length t) ≡ record { number = 0; length = length s }) × (bytes_after (read_of s).plan t ≡ s ++ drop (length s) t)
read_is_written s t B C e h =
    let p = plan_in s in
    let a = sound s e in
    let len = length_at s a in
    let n : number_of p (length t) ≡ 0 =
    accepts_number p (length t) (record { three = count_kept s a; four = counts_kept s a; others = none_broken a.others; fits = omega (arith, len) }) in
    let fs = sheet_fields p in
    let u = put_all t 0 fs in
    let v = s ++ drop (length s) t in
    let w : width_of fs ≡ 8 * length s = width_sheet p (counted p.count (count_kept s a)).least ∙ ap (λ (x : ℕ). 8 * x) len in
    let held : Holds s 0 fs = sheet_held s a in
    let put : Holds u 0 fs = put_all_holds t 0 fs (holds_fitting s 0 fs held) (omega (arith, w)) in
    let lu : length u ≡ length t = length_put_all t 0 fs in
    let lv : length v ≡ length t = rw (length-append, length-drop) (omega arith) in
    let in-sheet : (j : ℕ) → j < 8 * length s → bit u j ≡ bit v j = λ j l.
    holds_bits u s 0 fs put held j (omega arith) (omega (arith, w)) ∙ bit_same s v j (sym (get_or-append s (drop (length s) t) 0 (j / 8) (omega arith))) in
    let behind-sheet : (j : ℕ) → 8 * length s ≤ j → bit u j ≡ bit v j = λ j l.
    put_all_other t 0 fs j (omega (arith, w)) (λ x y. omega (arith, w)) ∙ bit_same t v j (get_or_behind s t (j / 8) (omega arith)) in
    rw ((decided s).plan_is e) (
      written_length p (length t) n ∙ rw len,
      accepted_bytes p t n
          ∙ bits_ext u v (lu ∙ sym lv) (put_all_bytes t 0 fs (omega (arith, w)) C) (bytes_append s (drop (length s) t) B (λ i. rw get_or-drop (C (length s + i))))
          (λ j l. elim (dec_lt j (8 * length s)) [ yes x ↦ in-sheet j x | no x ↦ behind-sheet j (omega arith) ]),
    )
  where
    get_or_behind : (s t : List ℕ) (i : ℕ) → length s ≤ i → get_or t i 0 ≡ get_or (s ++ drop (length s) t) i 0
    get_or_behind s t i l =
        let e : i ≡ length s + (i - length s) = omega arith in
        ap (λ (x : ℕ). get_or t x 0) e ∙ sym (get_or-drop (length s) t (i - length s) 0) ∙ sym (get_or-append-add s (drop (length s) t) (i - length s) 0)
        ∙ ap (λ (x : ℕ). get_or (s ++ drop (length s) t) x 0) (sym e)
