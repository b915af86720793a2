-- "pass only numbers and byte slices": the calls for C hosts with a list buffer and an answer buffer, and the ordinary call. Assumes nothing.
use Rattle.std.specs.Prelude.{ℕ, ◌^◌, ◌≤◌, ◌<◌, ◌≡◌, cond, List, ◌++◌, ltb, length, drop}
use Rattle.theory.specs.Sums.{Every}
use Rattle.numbers.specs.Numbers.{big_endian, number_at}
use Rattle.plan.specs.Tests.{Unbroken, First}
use Rattle.reading.specs.Reading.{sheet_tests}
use Rattle.evaluate.specs.Answer.{Answer, answer}
use Rattle.evaluate.specs.Store.{store_after}

-- The bytes that an answer takes.
abbrev pub answer_bytes : ℕ
answer_bytes = 40

-- An answer as bytes: total, belief, plausibility, pair count and list length, 8 bytes each, most significant first.
unfoldable pub encode_answer : Answer → List ℕ
encode_answer a =
    big_endian 8 a.total ++ (big_endian 8 a.belief ++ (big_endian 8 a.plausibility ++ (big_endian 8 a.pairs ++ big_endian 8 a.intervals)))

-- The ordinary call, that for a set of demands and that for a speed have an answer buffer, in which their answers take `size` bytes, and other
-- buffers that are lent to them: the list buffer, and that for the shares of a set. The bytes of such a buffer that count: none where the
-- answer buffer is too short, so that the number is 12 unless one of 1 to 11 applies.
abbrev pub room : ℕ → List ℕ → List ℕ → ℕ
room size lent buffer = cond (ltb (length buffer) size) 0 (length lent)

-- A lent buffer afterwards: unchanged where the answer buffer is too short; else what the call leaves in it.
abbrev pub lent_by : ℕ → List ℕ → List ℕ → List ℕ → List ℕ
lent_by size lent buffer after = cond (ltb (length buffer) size) lent after

-- The answer buffer afterwards: unchanged where it is too short; else the answers at its front, and the bytes behind untouched.
abbrev pub answers_by : ℕ → List ℕ → List ℕ → List ℕ
answers_by size buffer bytes = cond (ltb (length buffer) size) buffer (bytes ++ drop size buffer)

-- The ordinary call: the number returned, the list buffer and the answer buffer afterwards.
abbrev pub called : List ℕ → ℕ → ℕ → List ℕ → List ℕ → Answer
called sheet demand allowance list buffer = answer sheet demand allowance (room answer_bytes list buffer)

unfoldable pub number_returned : List ℕ → ℕ → ℕ → List ℕ → List ℕ → ℕ
number_returned sheet demand allowance list buffer = (called sheet demand allowance list buffer).number

unfoldable pub list_after : List ℕ → ℕ → List ℕ → List ℕ → List ℕ
list_after sheet allowance list buffer = lent_by answer_bytes list buffer (store_after sheet allowance list)

unfoldable pub answer_after : List ℕ → ℕ → ℕ → List ℕ → List ℕ → List ℕ
answer_after sheet demand allowance list buffer = answers_by answer_bytes buffer (encode_answer (called sheet demand allowance list buffer))

-- "If that has fewer than 40 bytes, it and the list buffer stay unchanged and the number is 12, unless one of 1 to 11 applies." Where a
-- speed is asked for, 48 stands for 40, and 24 where a set of demands is.
pub record TooShort (sheet : List ℕ) (number : ℕ) (list list_then buffer buffer_then : List ℕ) : Type 0 where
  pub answer_unchanged : buffer_then ≡ buffer
  pub list_unchanged : list_then ≡ list
  pub twelve : Every Unbroken (sheet_tests sheet) → number ≡ 12
  pub one_to_eleven : (k : ℕ) → 0 < k → First (sheet_tests sheet) k → number ≡ k

-- Five answers are read back from the answer buffer. (An allowance is a 32-bit number.)
pub record AnswersRead (allowance : ℕ) (a : Answer) (buffer : List ℕ) : Type 0 where
  pub total_read : number_at buffer 0 8 ≡ a.total
  pub belief_read : number_at buffer 8 8 ≡ a.belief
  pub plausibility_read : number_at buffer 16 8 ≡ a.plausibility
  pub pairs_read : allowance < 2 ^ 64 → number_at buffer 24 8 ≡ a.pairs
  pub intervals_read : number_at buffer 32 8 ≡ a.intervals

-- What that comes to, for every sheet, demand, allowance, list buffer and answer buffer.
module _ (sheet : List ℕ) (demand allowance : ℕ) (list buffer : List ℕ) where
  abbrev pub number : ℕ
  number = number_returned sheet demand allowance list buffer

  abbrev pub list_buffer : List ℕ
  list_buffer = list_after sheet allowance list buffer

  abbrev pub answer_buffer : List ℕ
  answer_buffer = answer_after sheet demand allowance list buffer

  abbrev pub answered : Answer
  answered = answer sheet demand allowance (length list)

  -- Where the answer buffer is long enough, the number and the list are the call's, and its other answers are read back.
  pub record LongEnough : Type 0 where
    pub number_is : number ≡ answered.number
    pub list_is : list_buffer ≡ store_after sheet allowance list
    pub answers : AnswersRead allowance answered answer_buffer
    pub later_kept : drop answer_bytes answer_buffer ≡ drop answer_bytes buffer

  pub record Call : Type 0 where
    pub too_short : length buffer < answer_bytes → TooShort sheet number list list_buffer buffer answer_buffer
    pub long_enough : answer_bytes ≤ length buffer → LongEnough
