-- The reader for C hosts, by whether its buffer is too short: `Read` of specs/Sheets.antt. Assumes nothing.
use Prim.Native.Nat.{ℕ, ◌≤◌, ◌<◌}
use mathlib.Core.Path.{◌≡◌, refl, sym, ap, ◌∙◌}
use mathlib.Core.Logic.{◌↔◌}
use mathlib.Core.Bool.{Bool, true, false, cond}
use mathlib.Core.List.{List, [], ◌∷◌, ◌++◌}
use native.Mathlib.Omega.{arith}
use lib.Dec.{ltb, eqb}
use lib.ListN.{length, take, drop, replicate}
use lib.Seq.{take_at, drop_at}
use borrow.Author.Tests.{lt-ltb, le-ltb, ltb-true, ltb-false}
use Rattle.std.specs.Prelude.{Result, Ok, Err}
use Rattle.std.specs.Result.{ResultUnwrapsOrElse}
use Rattle.theory.specs.Sums.{Every, more}
use Rattle.theory.specs.declared.Refusal.{Refusal}
use Rattle.theory.specs.Refusals.{refusal_number, number_in}
use Rattle.theory.proofs.Refusals.{numbered, above_zero}
use Rattle.theory.proofs.Every.{every_split}
use Rattle.numbers.specs.Numbers.{big_endian}
use Rattle.plan.specs.declared.Plan.{Plan}
use Rattle.plan.specs.Plan.{zero_plan, cleaned_plan}
use Rattle.plan.proofs.Zeros.{ByDefault, default_is_zero}
use Rattle.plan.specs.Tests.{test, first_broken, Unbroken, First}
use Rattle.plan.proofs.Numbers.{accepted_by, refused_by, first_found, first_then}
use Rattle.reading.specs.Reading.{Reading, sheet_tests, reading_as, read_of}
use Rattle.reading.proofs.Decided.{read_number_is, read_refused}
use Rattle.writing.specs.Writing.{written_of, bytes_after, Written}
use Rattle.writing.proofs.Theorems.{written_is_read, read_is_written}
use Rattle.wire.specs.Wire.{plan_bytes, decode_plan, encode_plan}
use Rattle.wire.proofs.RoundTrip.{plan_length, plan_back}
use Rattle.sheets.specs.Sheets.{read_call_tests, read_number, plan_after, Read}
use Rattle.sheets.proofs.Fits.{read_fits}

zeros_encoded : encode_plan zero_plan ≡ replicate plan_bytes 0
unfolding encode_plan big_endian
zeros_encoded = refl

-- The number and the plan of what was read.
number_is : (r : Result Plan Refusal) → number_in r ≡ (reading_as r).number
number_is (Ok p) = refl
number_is (Err e) = rw (above_zero e).1 refl

plan_is : (r : Result Plan Refusal) {p : Plan} → ResultUnwrapsOrElse r ByDefault p → p ≡ (reading_as r).plan
plan_is (Ok q) h = h
plan_is (Err e) h = rw (above_zero e).1 (default_is_zero _ h)

module _ (sheet buffer : List ℕ) where
  pub buffer_short : length buffer < plan_bytes
      → (read_number sheet buffer ≡ cond (eqb (read_of sheet).number 0) 12 (read_of sheet).number) × (plan_after sheet buffer ≡ buffer)
  unfolding read_number plan_after
  buffer_short h =
      rw (lt-ltb (length buffer) plan_bytes h, read_number_is sheet) (sym (first_then 11 (sheet_tests sheet) (test 12 true ∷ []) refl), refl)

  pub buffer_long : plan_bytes ≤ length buffer
      → (read_number sheet buffer ≡ (read_of sheet).number) × (plan_after sheet buffer ≡ encode_plan (read_of sheet).plan ++ drop plan_bytes buffer)
  unfolding read_number plan_after
  buffer_long h = rw (le-ltb (length buffer) plan_bytes h) (sym (read_number_is sheet), refl)

  -- What comes of what was read.
  pub short_kept : length buffer < plan_bytes → buffer ≡ plan_after sheet buffer
  short_kept h = sym (buffer_short h).1

  pub short_read : (read_of sheet).number ≡ 0 → length buffer < plan_bytes → 12 ≡ read_number sheet buffer
  short_read e h = sym ((buffer_short h).0 ∙ rw e refl)

  pub read_refuses : (r : Refusal) → reading_as (Err r) ≡ read_of sheet → refusal_number r ≡ read_number sheet buffer
  unfolding read_number
  read_refuses r e =
      let n : refusal_number r ≡ first_broken (sheet_tests sheet) = number_is (Err r) ∙ ap (λ (x : Reading). x.number) e ∙ read_number_is sheet in
      n ∙ sym (first_found (sheet_tests sheet) (test 12 (ltb (length buffer) plan_bytes) ∷ []) (λ z. numbered r (n ∙ z)))

  pub read_accepts : (read_of sheet).number ≡ 0 → plan_bytes ≤ length buffer → 0 ≡ read_number sheet buffer
  read_accepts e h = sym ((buffer_long h).0 ∙ e)

  pub plan_written : (r : Result Plan Refusal) (p : Plan) → reading_as r ≡ read_of sheet → ResultUnwrapsOrElse r ByDefault p → plan_bytes ≤ length buffer
      → encode_plan p ++ drop plan_bytes buffer ≡ plan_after sheet buffer
  plan_written r p e u h = sym ((buffer_long h).1 ∙ rw (← e, ← plan_is r u) refl)

  sheet_accepted : (read_number sheet buffer ≡ 0) ↔ Every Unbroken (read_call_tests sheet buffer)
  unfolding read_number
  sheet_accepted = accepted_by 12 (read_call_tests sheet buffer) refl

  sheet_refused : (k : ℕ) → 0 < k → (read_number sheet buffer ≡ k) ↔ First (read_call_tests sheet buffer) k
  unfolding read_number
  sheet_refused = refused_by (read_call_tests sheet buffer)

  -- Where the sheet is accepted, the buffer is long enough.
  pub accepted_long : read_number sheet buffer ≡ 0 → plan_bytes ≤ length buffer
  accepted_long e = behind (every_split (sheet_tests sheet) (sheet_accepted.0 e)).1
    where
      behind : Every Unbroken (test 12 (ltb (length buffer) plan_bytes) ∷ []) → plan_bytes ≤ length buffer
      behind (more e es) = ltb-false (length buffer) plan_bytes e

  pub plan_read : read_number sheet buffer ≡ 0 → decode_plan (plan_after sheet buffer) ≡ (read_of sheet).plan
  plan_read e = ap decode_plan (buffer_long (accepted_long e)).1 ∙ plan_back (read_of sheet).plan (drop plan_bytes buffer) (read_fits sheet)

  kept_behind : (b : Bool) → ltb (length buffer) plan_bytes ≡ b → drop plan_bytes (plan_after sheet buffer) ≡ drop plan_bytes buffer
  kept_behind true h = ap (drop plan_bytes) (buffer_short (ltb-true (length buffer) plan_bytes h)).1
  kept_behind false h =
      ap (drop plan_bytes) (buffer_long (ltb-false (length buffer) plan_bytes h)).1
      ∙ drop_at (encode_plan (read_of sheet).plan) (drop plan_bytes buffer) plan_bytes (plan_length (read_of sheet).plan (read_fits sheet))

  pub read : Read sheet buffer
  read = record {
    accepted = sheet_accepted;
    refused_by = sheet_refused;
    short_kept = λ h. (buffer_short h).1;
    plan_read = plan_read;
    zeros = λ k h e l.
        let w = buffer_long l in
        let r = read_refused sheet k h (sym w.0 ∙ e) in
        w.1 ∙ ap (λ (x : Reading). encode_plan x.plan ++ drop plan_bytes buffer) r ∙ ap (λ bs. bs ++ drop plan_bytes buffer) zeros_encoded;
    rest_kept = kept_behind (ltb (length buffer) plan_bytes) refl;
    unused_zero = λ b e.
        let z = sym (buffer_long (accepted_long e)).0 ∙ e in
        let back = read_is_written sheet sheet b b z (omega arith) in
        let again = written_is_read (read_of sheet).plan sheet (ap (λ (x : Written). x.number) back.0) in
        let same : take (written_of (read_of sheet).plan (length sheet)).length (bytes_after (read_of sheet).plan sheet) ≡ sheet =
        rw (back.0, back.1) (take_at sheet (drop (length sheet) sheet) (length sheet) refl) in
        let clean : (read_of sheet).plan ≡ cleaned_plan (read_of sheet).plan = ap (λ (x : Reading). x.plan) (sym (ap read_of same) ∙ again) in
        rw (plan_read e) (sym clean);
  }

-- What the reader goes by.
pub ruleset read_steps = (short_kept, short_read, read_refuses, read_accepts)
