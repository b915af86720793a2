-- The call for C hosts, by whether the answer buffer is too short: the statement of specs/Call.antt. Assumes nothing.
use Prim.Native.Nat.{ℕ, zero, suc, ◌≤◌, ◌<◌}
use mathlib.Core.Path.{◌≡◌, refl, sym, ap, ◌∙◌}
use mathlib.Core.Bool.{true, true≢false}
use mathlib.Core.List.{List, [], ◌∷◌, ◌++◌, append_assoc}
use native.Mathlib.Omega.{arith}
use lib.ListN.{length, drop, length-append}
use lib.Seq.{drop_at}
use borrow.Author.Tests.{lt-ltb, le-ltb}
use Rattle.numbers.specs.Numbers.{big_endian}
use Rattle.numbers.proofs.Numbers.{length-big_endian, read_front, read_behind}
use Rattle.theory.specs.Sums.{Every, more}
use Rattle.theory.proofs.Every.{every_split}
use Rattle.plan.specs.Tests.{test, first_broken, Unbroken, First, here}
use Rattle.reading.specs.Reading.{sheet_tests}
use Rattle.evaluate.specs.Answer.{Answer, call_tests, answer}
use Rattle.evaluate.specs.Store.{store_after}
use Rattle.evaluate.specs.Demands.{by_test}
use Rattle.plan.proofs.Numbers.{accepted_by, refused_by, first_in_front, first_behind}
use Rattle.evaluate.proofs.Demands.{demand_1, Fits64, answer_fits}
use Rattle.drive.specs.Call.{answer_bytes, encode_answer, number_returned, list_after, answer_after, TooShort, AnswersRead, Call}

-- ---- the bytes of an answer

pub length_answer : (a : Answer) → length (encode_answer a) ≡ answer_bytes
unfolding encode_answer
length_answer a = simp (length-append, length-big_endian)

-- Its numbers are read back.
pub answers_read : {allowance : ℕ} (a : Answer) → Fits64 allowance a → (rest : List ℕ) {buffer : List ℕ} → buffer ≡ encode_answer a ++ rest → AnswersRead allowance a buffer
unfolding encode_answer
answers_read a fits rest {buffer} e =
    let b5 : List ℕ = big_endian 8 a.intervals ++ rest in
    let b4 : List ℕ = big_endian 8 a.pairs ++ b5 in
    let b3 : List ℕ = big_endian 8 a.plausibility ++ b4 in
    let b2 : List ℕ = big_endian 8 a.belief ++ b3 in
    let all : buffer ≡ big_endian 8 a.total ++ b2 = e ∙ simp append_assoc in
    record {
      total_read = rw all (read_front 8 a.total b2 fits.run.total);
      belief_read = rw all (read_behind 8 a.total b2 0 8 ∙ read_front 8 a.belief b3 fits.belief);
      plausibility_read = rw all (read_behind 8 a.total b2 8 8 ∙ (read_behind 8 a.belief b3 0 8 ∙ read_front 8 a.plausibility b4 fits.plausibility));
      pairs_read = λ k.
          rw all (read_behind 8 a.total b2 16 8 ∙ (read_behind 8 a.belief b3 8 8 ∙ (read_behind 8 a.plausibility b4 0 8
          ∙ read_front 8 a.pairs b5 (fits.run.pairs k))));
      intervals_read =
          rw all (read_behind 8 a.total b2 24 8 ∙ (read_behind 8 a.belief b3 16 8 ∙ (read_behind 8 a.plausibility b4 8 8
          ∙ (read_behind 8 a.pairs b5 0 8 ∙ read_front 8 a.intervals rest fits.run.intervals))));
    }

-- ---- an answer buffer that is too short

-- A call without a store is refused by one of the tests that every call has first.
positive : (sheet : List ℕ) → 0 < first_broken (call_tests sheet 0)
positive sheet = go (first_broken (call_tests sheet 0)) refl
  where
    last : Every Unbroken (test 12 true ∷ []) → ⊥
    last (more e es) = true≢false e

    go : (k : ℕ) → first_broken (call_tests sheet 0) ≡ k → 0 < k
    go zero e = absurd (last (every_split (sheet_tests sheet) ((accepted_by 12 (call_tests sheet 0) refl).0 e)).1)
    go (suc k) e = omega arith

-- Its number is that of the first.
pub first_refuses : (sheet : List ℕ) {number : ℕ} → ((k : ℕ) → 0 < k → First (call_tests sheet 0) k → number ≡ k) → first_broken (call_tests sheet 0) ≡ number
first_refuses sheet is = sym (is _ (positive sheet) ((refused_by (call_tests sheet 0) _ (positive sheet)).0 refl))

-- The number is that of the first test that is broken, of a call without a list buffer.
pub short_call : {sheet list list_then buffer buffer_then : List ℕ} {number : ℕ} → ((k : ℕ) → 0 < k → First (call_tests sheet 0) k → number ≡ k)
    → list_then ≡ list → buffer_then ≡ buffer → TooShort sheet number list list_then buffer buffer_then
short_call is l b = record {
  answer_unchanged = b;
  list_unchanged = l;
  twelve = λ u. is 12 (omega arith) (first_behind u (here refl refl));
  one_to_eleven = λ k h f. is k h (first_in_front f _);
}

-- ---- the two ways of the call at a demand

module _ (sheet : List ℕ) (demand allowance : ℕ) (list buffer : List ℕ) where
  -- What the three definitions come to, by whether the answer buffer is too short.
  too_short : length buffer < answer_bytes → (number_returned sheet demand allowance list buffer ≡ (answer sheet demand allowance 0).number)
      × (list_after sheet allowance list buffer ≡ list) × (answer_after sheet demand allowance list buffer ≡ buffer)
  unfolding number_returned list_after answer_after
  too_short h = rw (lt-ltb (length buffer) answer_bytes h, number_returned) (refl, refl, refl)

  short_number : length buffer < answer_bytes → (k : ℕ) → 0 < k → First (call_tests sheet 0) k → number_returned sheet demand allowance list buffer ≡ k
  short_number h k l f = (too_short h).0 ∙ ((demand_1 sheet demand allowance []).refused_by k l).1 (by_test f)

  -- So the call answers by the tests that every call has first.
  pub refuses : length buffer < answer_bytes → first_broken (call_tests sheet 0) ≡ number_returned sheet demand allowance list buffer
  refuses h = first_refuses sheet (short_number h)

  long_enough : answer_bytes ≤ length buffer → (number_returned sheet demand allowance list buffer ≡ (answer sheet demand allowance (length list)).number)
      × (list_after sheet allowance list buffer ≡ store_after sheet allowance list)
      × (answer_after sheet demand allowance list buffer ≡ encode_answer (answer sheet demand allowance (length list)) ++ drop answer_bytes buffer)
  unfolding number_returned list_after answer_after
  long_enough h = rw (le-ltb (length buffer) answer_bytes h, number_returned) (refl, refl, refl)

  pub call : Call sheet demand allowance list buffer
  call = record {
    too_short = λ h.
        let way = too_short h in
        short_call (short_number h) way.1 way.2;
    long_enough = λ h.
        let way = long_enough h in
        let a : Answer = answer sheet demand allowance (length list) in
        record {
          number_is = way.0;
          list_is = way.1;
          answers = answers_read a (answer_fits sheet demand allowance list) (drop answer_bytes buffer) way.2;
          later_kept = ap (drop answer_bytes) way.2 ∙ drop_at (encode_answer a) (drop answer_bytes buffer) answer_bytes (length_answer a);
        };
  }
