-- The call for a set of demands for C hosts: the statement of specs/Set.antt. Assumes nothing.
use Prim.Native.Nat.{ℕ, ◌≤◌, ◌<◌}
use mathlib.Core.Path.{◌≡◌, refl, ap, ◌∙◌}
use mathlib.Core.List.{List, [], ◌++◌, append_assoc}
use lib.ListN.{length, drop, length-append}
use lib.Seq.{drop_at}
use borrow.Author.Tests.{lt-ltb, le-ltb}
use Rattle.numbers.specs.Numbers.{big_endian}
use Rattle.numbers.proofs.Numbers.{length-big_endian, read_front, read_behind}
use Rattle.plan.specs.Tests.{first_broken, First}
use Rattle.plan.proofs.Numbers.{first_in_front}
use Rattle.evaluate.specs.SheetRun.{SheetRun}
use Rattle.evaluate.specs.Set.{set_answer, set_store_after, shares_after}
use Rattle.evaluate.specs.Answer.{call_tests}
use Rattle.evaluate.specs.Demands.{by_test}
use Rattle.evaluate.proofs.SetMet.{set_met, set_answer_fits}
use Rattle.wire.specs.Demands.{demands_in}
use Rattle.drive.specs.Set.{set_answer_bytes, encode_set_answer, set_number, set_list_after, set_shares_after, set_answer_after, SetCall}
use Rattle.drive.proofs.Call.{first_refuses, short_call}

length_set_answer : (r : SheetRun) → length (encode_set_answer r) ≡ set_answer_bytes
unfolding encode_set_answer
length_set_answer r = simp (length-append, length-big_endian)

module _ (sheet demands : List ℕ) (allowance : ℕ) (list shares buffer : List ℕ) where
  -- What the four definitions come to, by whether the answer buffer is too short.
  too_short : length buffer < set_answer_bytes → (set_number sheet demands allowance list shares buffer ≡ (set_answer sheet (demands_in demands) allowance 0 0).number)
      × (set_list_after sheet demands allowance list shares buffer ≡ list) × (set_shares_after sheet demands allowance list shares buffer ≡ shares)
      × (set_answer_after sheet demands allowance list shares buffer ≡ buffer)
  unfolding set_number set_list_after set_shares_after set_answer_after
  too_short h = rw (lt-ltb (length buffer) set_answer_bytes h, set_number) (refl, refl, refl, refl)

  short_number : length buffer < set_answer_bytes → (k : ℕ) → 0 < k → First (call_tests sheet 0) k → set_number sheet demands allowance list shares buffer ≡ k
  short_number h k l f = (too_short h).0 ∙ ((set_met sheet (demands_in demands) allowance [] []).first.refused_by k l).1 (by_test (first_in_front f _))

  pub refuses : length buffer < set_answer_bytes → first_broken (call_tests sheet 0) ≡ set_number sheet demands allowance list shares buffer
  refuses h = first_refuses sheet (short_number h)

  long_enough : set_answer_bytes ≤ length buffer
      → (set_number sheet demands allowance list shares buffer ≡ (set_answer sheet (demands_in demands) allowance (length list) (length shares)).number)
      × (set_list_after sheet demands allowance list shares buffer ≡ set_store_after sheet (demands_in demands) allowance list (length shares))
      × (set_shares_after sheet demands allowance list shares buffer ≡ shares_after sheet (demands_in demands) allowance (length list) shares)
      × (set_answer_after sheet demands allowance list shares buffer ≡ encode_set_answer (set_answer sheet (demands_in demands) allowance (length list) (length shares)) ++ drop set_answer_bytes buffer)
  unfolding set_number set_list_after set_shares_after set_answer_after
  long_enough h = rw (le-ltb (length buffer) set_answer_bytes h, set_number) (refl, refl, refl, refl)

  pub set_call : SetCall sheet demands allowance list shares buffer
  unfolding encode_set_answer
  set_call = record {
    too_short = λ h.
        let way = too_short h in
        (short_call (short_number h) way.1 way.3, way.2);
    long_enough = λ h.
        let way = long_enough h in
        let r : SheetRun = set_answer sheet (demands_in demands) allowance (length list) (length shares) in
        let fits = set_answer_fits sheet (demands_in demands) allowance list shares in
        let behind : List ℕ = drop set_answer_bytes buffer in
        let b3 : List ℕ = big_endian 8 r.intervals ++ behind in
        let b2 : List ℕ = big_endian 8 r.pairs ++ b3 in
        let all : set_answer_after sheet demands allowance list shares buffer ≡ big_endian 8 r.total ++ b2 = way.3 ∙ simp append_assoc in
        record {
          number_is = way.0;
          list_is = way.1;
          shares_are = way.2;
          total_read = rw all (read_front 8 r.total b2 fits.total);
          pairs_read = λ k. rw all (read_behind 8 r.total b2 0 8 ∙ read_front 8 r.pairs b3 (fits.pairs k));
          intervals_read =
              rw all (read_behind 8 r.total b2 8 8 ∙ (read_behind 8 r.pairs b3 0 8 ∙ read_front 8 r.intervals behind fits.intervals));
          later_kept = ap (drop set_answer_bytes) way.3 ∙ drop_at (encode_set_answer r) behind set_answer_bytes (length_set_answer r);
        };
  }
