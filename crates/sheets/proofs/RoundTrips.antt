-- Both round trips of the writer and the reader for C hosts: `RoundTrips` of specs/Sheets.antt. Assumes nothing.
use Prim.Native.Nat.{ℕ, ◌≤◌}
use mathlib.Core.Path.{◌≡◌, sym, ap, ◌∙◌}
use mathlib.Core.List.{List, ◌++◌}
use native.Mathlib.Omega.{arith}
use lib.ListN.{length, take, drop, length-append}
use Rattle.numbers.specs.Numbers.{number_at}
use Rattle.plan.specs.Plan.{cleaned_plan}
use Rattle.reading.specs.Reading.{read_of, Reading}
use Rattle.writing.specs.Writing.{written_of, bytes_after, Written}
use Rattle.writing.proofs.Theorems.{written_sheet, written_longest, written_is_read, read_is_written}
use Rattle.wire.specs.Wire.{plan_bytes, decode_plan, encode_plan}
use Rattle.wire.proofs.RoundTrip.{plan_length}
use Rattle.sheets.specs.Sheets.{length_bytes, sheet_after, length_after, plan_after, RoundTrips}
use Rattle.numbers.proofs.Numbers.{read_front}
use Rattle.sheets.proofs.Fits.{read_fits}
use Rattle.sheets.proofs.Writer.{long_enough, accepted_writes, write}
use Rattle.sheets.proofs.Reader.{buffer_long, accepted_long, plan_read}

pub sheet_round_trips : RoundTrips
sheet_round_trips = record {
  written_reads = λ plan sheet answer buffer e l.
      let p = decode_plan plan in
      let w = accepted_writes plan sheet answer e in
      let s : List ℕ = take (number_at (length_after plan sheet answer) 0 length_bytes) (sheet_after plan sheet answer) in
      let same : s ≡ take (written_of p (length sheet)).length (bytes_after p sheet) =
      rw ((write plan sheet answer).length_read e, w.1, ap (λ (x : Written). x.length) (written_sheet p (length sheet) w.0)) in
      let back : read_of s ≡ record { number = 0; plan = cleaned_plan p } = ap read_of same ∙ written_is_read p sheet w.0 in
      let r = buffer_long s buffer l in
      (r.0 ∙ ap (λ (x : Reading). x.number) back, r.1 ∙ ap (λ (x : Reading). encode_plan x.plan ++ drop plan_bytes buffer) back);
  read_writes = λ s buffer sheet answer bs bt e l k.
      let long = accepted_long s buffer e in
      let r = buffer_long s buffer long in
      let z : (read_of s).number ≡ 0 = sym r.0 ∙ e in
      let p : decode_plan (plan_after s buffer) ≡ (read_of s).plan = plan_read s buffer e in
      let there : plan_bytes ≤ length (plan_after s buffer) =
      rw r.1 (omega (arith, length-append (encode_plan (read_of s).plan) (drop plan_bytes buffer), plan_length (read_of s).plan (read_fits s))) in
      let w = long_enough (plan_after s buffer) sheet answer there k in
      let back = read_is_written s sheet bs bt z l in
      let result : written_of (decode_plan (plan_after s buffer)) (length sheet) ≡ record { number = 0; length = length s } =
      ap (λ q. written_of q (length sheet)) p ∙ back.0 in
      let short : length s ≤ 224 =
      rw result at (written_longest (decode_plan (plan_after s buffer)) (length sheet) (ap (λ (x : Written). x.number) result)) in (
        w.0 ∙ ap (λ (x : Written). x.number) result,
        w.1 ∙ (ap (λ q. bytes_after q sheet) p ∙ back.1),
        rw (w.2, result) (read_front length_bytes (length s) (drop length_bytes answer) (omega (arith, short))),
      );
}
