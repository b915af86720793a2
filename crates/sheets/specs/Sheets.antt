-- The writer and the reader for C hosts: a plan as bytes to a sheet, and a sheet to a plan as bytes. Assumes nothing.
use Rattle.std.specs.Prelude.{ℕ, ◌≤◌, ◌<◌, ◌≡◌, cond, ◌||◌, ◌↔◌, List, [], ◌∷◌, ◌++◌, ltb, length, take, drop, replicate}
use Rattle.theory.specs.Sums.{Every}
use Rattle.numbers.specs.Numbers.{Bytes, big_endian, number_at}
use Rattle.plan.specs.Tests.{Test, test, first_broken, Unbroken, First}
use Rattle.plan.specs.Plan.{cleaned_plan}
use Rattle.reading.specs.Reading.{sheet_tests, read_of}
use Rattle.writing.specs.Writing.{length_of, sheet_fields, plan_tests, written, written_of, bytes_by, bytes_after}
use Rattle.wire.specs.Wire.{plan_bytes, decode_plan, encode_plan}

-- The bytes that a sheet's length takes in the writer's answer buffer.
abbrev pub length_bytes : ℕ
length_bytes = 8

-- The writer, on a plan's bytes, a sheet buffer and an answer buffer.
module _ (plan sheet answer : List ℕ) where
  -- Its tests: 12 at once for a plan of too few bytes; 3, 4 (only k) and 6 to 11; 12 for an answer buffer that is too short; 15.
  abbrev pub write_call_tests : List Test
  write_call_tests =
      test 12 (ltb (length plan) plan_bytes) ∷ (plan_tests (decode_plan plan)
      ++ (test 12 (ltb (length answer) length_bytes) ∷ test 15 (ltb (length sheet) (length_of (decode_plan plan))) ∷ []))

  -- The number returned.
  unfoldable pub write_number : ℕ
  write_number = first_broken write_call_tests

  -- The sheet buffer afterwards: refused, as it was; accepted, the sheet at its front and the bytes behind untouched.
  unfoldable pub sheet_after : List ℕ
  sheet_after = bytes_by (first_broken write_call_tests) sheet (sheet_fields (decode_plan plan))

  -- The answer buffer afterwards: unchanged where it or the plan is too short; else the sheet's length at its front, or 0 on a refusal
  -- (15 too), and the bytes behind untouched.
  unfoldable pub length_after : List ℕ
  length_after =
      cond (ltb (length plan) plan_bytes || ltb (length answer) length_bytes) answer
      (big_endian length_bytes (written (first_broken write_call_tests) (length_of (decode_plan plan))).length ++ drop length_bytes answer)

  -- What that comes to, for every plan, sheet buffer and answer buffer.
  pub record Write : Type 0 where
    pub accepted : (write_number ≡ 0) ↔ Every Unbroken write_call_tests
    pub refused_by : (k : ℕ) → 0 < k → (write_number ≡ k) ↔ First write_call_tests k
    -- Refused, it writes no sheet; 12 changes nothing; otherwise the length is 0, where the answer buffer has room for it.
    pub nothing_written : (k : ℕ) → 0 < k → write_number ≡ k → sheet_after ≡ sheet
    pub twelve : write_number ≡ 12 → length_after ≡ answer
    pub length_zero : (k : ℕ) → 0 < k → (k ≡ 12 → ⊥) → write_number ≡ k → length_bytes ≤ length answer
        → length_after ≡ replicate length_bytes 0 ++ drop length_bytes answer
    pub short_kept : length answer < length_bytes → length_after ≡ answer
    -- Accepted, the length is read back, and the bytes behind the sheet and behind its length are untouched.
    pub length_read : write_number ≡ 0 → number_at length_after 0 length_bytes ≡ length_of (decode_plan plan)
    pub sheet_rest : write_number ≡ 0 → drop (length_of (decode_plan plan)) sheet_after ≡ drop (length_of (decode_plan plan)) sheet
    pub answer_rest : drop length_bytes length_after ≡ drop length_bytes answer
    -- Where plan and answer buffer are long enough, the number and the sheet are the writer's; 224 bytes hold every sheet.
    pub as_written : plan_bytes ≤ length plan → length_bytes ≤ length answer
        → (write_number ≡ (written_of (decode_plan plan) (length sheet)).number) × (sheet_after ≡ bytes_after (decode_plan plan) sheet)
    pub longest : write_number ≡ 0 → length_of (decode_plan plan) ≤ 224
    pub fifteen : write_number ≡ 15 → length sheet < 224

-- The reader, on a sheet and a buffer for the plan.
module _ (sheet buffer : List ℕ) where
  -- Its tests: 1 to 11, then 12, the buffer is shorter than a plan.
  abbrev pub read_call_tests : List Test
  read_call_tests = sheet_tests sheet ++ (test 12 (ltb (length buffer) plan_bytes) ∷ [])

  -- The number returned.
  unfoldable pub read_number : ℕ
  read_number = first_broken read_call_tests

  -- The buffer afterwards: unchanged where it is too short; else the plan at its front, of zeros where the sheet is refused, and the bytes
  -- behind untouched.
  unfoldable pub plan_after : List ℕ
  plan_after = cond (ltb (length buffer) plan_bytes) buffer (encode_plan (read_of sheet).plan ++ drop plan_bytes buffer)

  -- What that comes to, for every sheet and buffer.
  pub record Read : Type 0 where
    pub accepted : (read_number ≡ 0) ↔ Every Unbroken read_call_tests
    pub refused_by : (k : ℕ) → 0 < k → (read_number ≡ k) ↔ First read_call_tests k
    pub short_kept : length buffer < plan_bytes → plan_after ≡ buffer
    -- Accepted, the plan is read back; refused for the sheet, it is zeros; the bytes behind are untouched.
    pub plan_read : read_number ≡ 0 → decode_plan plan_after ≡ (read_of sheet).plan
    pub zeros : (k : ℕ) → 0 < k → read_number ≡ k → plan_bytes ≤ length buffer → plan_after ≡ replicate plan_bytes 0 ++ drop plan_bytes buffer
    pub rest_kept : drop plan_bytes plan_after ≡ drop plan_bytes buffer
    -- Places that are not in use are zero.
    pub unused_zero : Bytes sheet → read_number ≡ 0 → cleaned_plan (decode_plan plan_after) ≡ decode_plan plan_after

-- The writer looks at the used places alone: two plans that agree there are answered and written alike, whatever their other bytes are.
pub record WrittenAlike (plan other sheet answer : List ℕ) : Type 0 where
  pub number : write_number other sheet answer ≡ write_number plan sheet answer
  pub sheet_same : sheet_after other sheet answer ≡ sheet_after plan sheet answer
  pub length_same : length_after other sheet answer ≡ length_after plan sheet answer

abbrev pub UnusedIgnored : Type 0
UnusedIgnored = (plan other sheet answer : List ℕ) → plan_bytes ≤ length plan → plan_bytes ≤ length other
    → cleaned_plan (decode_plan other) ≡ cleaned_plan (decode_plan plan) → WrittenAlike plan other sheet answer

-- Both round trips of the two calls: a written sheet reads back as its plan, in the used places, and a read one, of bytes, is written back
-- to its bytes.
pub record RoundTrips : Type 0 where
  pub written_reads : (plan sheet answer buffer : List ℕ) → write_number plan sheet answer ≡ 0 → plan_bytes ≤ length buffer
      → let s : List ℕ = take (number_at (length_after plan sheet answer) 0 length_bytes) (sheet_after plan sheet answer) in
      (read_number s buffer ≡ 0) × (plan_after s buffer ≡ encode_plan (cleaned_plan (decode_plan plan)) ++ drop plan_bytes buffer)
  pub read_writes : (s buffer sheet answer : List ℕ) → Bytes s → Bytes sheet → read_number s buffer ≡ 0 → length s ≤ length sheet
      → length_bytes ≤ length answer
      → (write_number (plan_after s buffer) sheet answer ≡ 0)
      × (sheet_after (plan_after s buffer) sheet answer ≡ s ++ drop (length s) sheet)
      × (number_at (length_after (plan_after s buffer) sheet answer) 0 length_bytes ≡ length s)
