-- The call for a speed for C hosts: the statement of specs/Speed.antt. Assumes nothing.
use Prim.Native.Nat.{ℕ, ◌≤◌, ◌<◌}
use mathlib.Core.Path.{◌≡◌, refl, ap, ◌∙◌}
use mathlib.Core.List.{List, [], ◌++◌, append_assoc}
use native.Mathlib.Omega.{arith}
use lib.ListN.{length, drop, length-append}
use lib.Seq.{drop_at}
use borrow.Author.Tests.{lt-ltb, le-ltb}
use Rattle.numbers.specs.Numbers.{big_endian}
use Rattle.numbers.proofs.Numbers.{length-big_endian, read_front, read_past}
use Rattle.plan.specs.Tests.{first_broken, First}
use Rattle.plan.proofs.Numbers.{first_in_front}
use Rattle.evaluate.specs.Speed.{SpeedAnswer, speed_answer, speed_store_after}
use Rattle.evaluate.specs.Answer.{call_tests}
use Rattle.evaluate.specs.Demands.{by_test}
use Rattle.evaluate.proofs.SpeedMet.{speed_met, speed_answer_fits}
use Rattle.drive.specs.Call.{answer_bytes, encode_answer}
use Rattle.drive.specs.Speed.{speed_answer_bytes, encode_speed_answer, speed_number, speed_list_after, speed_answer_after, SpeedCall}
use Rattle.drive.proofs.Call.{length_answer, answers_read, first_refuses, short_call}

length_speed_answer : (p : SpeedAnswer) → length (encode_speed_answer p) ≡ speed_answer_bytes
unfolding encode_speed_answer
length_speed_answer p = simp (length-append, length-big_endian) (omega (arith, length_answer p.answer))

-- ---- the two ways

module _ (sheet : List ℕ) (target allowance : ℕ) (list buffer : List ℕ) where
  -- What the three definitions come to, by whether the answer buffer is too short.
  too_short : length buffer < speed_answer_bytes → (speed_number sheet target allowance list buffer ≡ (speed_answer sheet target allowance 0).answer.number)
      × (speed_list_after sheet target allowance list buffer ≡ list) × (speed_answer_after sheet target allowance list buffer ≡ buffer)
  unfolding speed_number speed_list_after speed_answer_after
  too_short h = rw (lt-ltb (length buffer) speed_answer_bytes h, speed_number) (refl, refl, refl)

  short_number : length buffer < speed_answer_bytes → (k : ℕ) → 0 < k → First (call_tests sheet 0) k → speed_number sheet target allowance list buffer ≡ k
  short_number h k l f = (too_short h).0 ∙ ((speed_met sheet target allowance []).first.refused_by k l).1 (by_test (first_in_front f _))

  pub refuses : length buffer < speed_answer_bytes → first_broken (call_tests sheet 0) ≡ speed_number sheet target allowance list buffer
  refuses h = first_refuses sheet (short_number h)

  long_enough : speed_answer_bytes ≤ length buffer → (speed_number sheet target allowance list buffer ≡ (speed_answer sheet target allowance (length list)).answer.number)
      × (speed_list_after sheet target allowance list buffer ≡ speed_store_after sheet target allowance list)
      × (speed_answer_after sheet target allowance list buffer ≡ encode_speed_answer (speed_answer sheet target allowance (length list)) ++ drop speed_answer_bytes buffer)
  unfolding speed_number speed_list_after speed_answer_after
  long_enough h = rw (le-ltb (length buffer) speed_answer_bytes h, speed_number) (refl, refl, refl)

  pub speed_call : SpeedCall sheet target allowance list buffer
  unfolding encode_speed_answer
  speed_call = record {
    too_short = λ h.
        let way = too_short h in
        short_call (short_number h) way.1 way.2;
    long_enough = λ h.
        let way = long_enough h in
        let p : SpeedAnswer = speed_answer sheet target allowance (length list) in
        let fits = speed_answer_fits sheet target allowance list in
        let behind : List ℕ = drop speed_answer_bytes buffer in
        let rest : List ℕ = big_endian 8 p.speed ++ behind in
        let all : speed_answer_after sheet target allowance list buffer ≡ encode_answer p.answer ++ rest =
        way.2 ∙ append_assoc (encode_answer p.answer) (big_endian 8 p.speed) behind in
        record {
          number_is = way.0;
          list_is = way.1;
          answers = answers_read p.answer fits rest all;
          speed_read =
              rw all (read_past (encode_answer p.answer) rest answer_bytes 0 8 (length_answer p.answer)
              ∙ read_front 8 p.speed behind (omega (arith, (speed_met sheet target allowance list).speed_most)));
          later_kept = ap (drop speed_answer_bytes) way.2 ∙ drop_at (encode_speed_answer p) behind speed_answer_bytes (length_speed_answer p);
        };
  }
