-- The rows P1 to P10 of the bench table, the cases that document 02 adds with requests six and seven, from the sheets' bytes. They are proved
-- in proofs/Bench.antt. Assumes nothing.
use Rattle.std.specs.Prelude.{ℕ, ◌≡◌, List, [], ◌∷◌}
use Rattle.theory.specs.Focal.{focal}
use Rattle.evaluate.specs.Answer.{Answer, sheet_list, refusal, answer}
use Rattle.theory.specs.Limits.{store_bytes}

-- A: T 4, [0,0] weight 1, [2,3] weight 3. B: T 3, [1,1] weight 2, [1,4] weight 1. The two bytes of the structure follow.
abbrev pub AB : List ℕ → List ℕ
AB structure =
    0x12 ∷ 0x1A ∷
    0x20 ∷ 0x04 ∷ 0x00 ∷ 0x00 ∷ 0x00 ∷ 0x00 ∷ 0x40 ∷ 0x08 ∷ 0x00 ∷ 0xC0 ∷ 0x30 ∷
    0x20 ∷ 0x03 ∷ 0x00 ∷ 0x10 ∷ 0x01 ∷ 0x00 ∷ 0x80 ∷ 0x04 ∷ 0x01 ∷ 0x00 ∷ 0x10 ∷ structure

abbrev pub ABseries : List ℕ
ABseries = AB (0x01 ∷ 0x80 ∷ [])

abbrev pub ABshared : List ℕ
ABshared = AB (0x01 ∷ 0x90 ∷ [])

abbrev pub ABspare : List ℕ
ABspare = AB (0x01 ∷ 0xA0 ∷ [])

-- W: source 002, example 2.1, speeds times 10, weights times 100, in series.
abbrev pub W : List ℕ
W =
    0x12 ∷ 0x1E ∷
    0x30 ∷ 0x64 ∷ 0x00 ∷ 0x00 ∷ 0x04 ∷ 0x05 ∷ 0x00 ∷ 0x0C ∷ 0x02 ∷ 0x04 ∷ 0x30 ∷ 0x07 ∷ 0x00 ∷ 0xA0 ∷ 0x34 ∷
    0x20 ∷ 0x64 ∷ 0x00 ∷ 0x00 ∷ 0x06 ∷ 0x10 ∷ 0xC0 ∷ 0x20 ∷ 0x02 ∷ 0x82 ∷ 0x10 ∷ 0x01 ∷ 0x80 ∷ []

-- The speed 4,095 and the speed 1, each all of the time, shared.
abbrev pub top_and_one : List ℕ
top_and_one =
    0x12 ∷ 0x12 ∷
    0x10 ∷ 0x01 ∷ 0xFF ∷ 0xFF ∷ 0xFF ∷ 0x00 ∷ 0x40 ∷
    0x10 ∷ 0x01 ∷ 0x00 ∷ 0x10 ∷ 0x01 ∷ 0x00 ∷ 0x40 ∷ 0x01 ∷ 0x90 ∷ []

-- An accepted call's answer.
abbrev pub accepted : ℕ → ℕ → ℕ → ℕ → ℕ → Answer
accepted total belief plausibility pairs intervals =
    record { number = 0; total = total; belief = belief; plausibility = plausibility; pairs = pairs; intervals = intervals }

-- A call with the allowance of the table and a store that is just long enough.
abbrev pub asked : List ℕ → ℕ → Answer
asked sheet demand = answer sheet demand 1000 store_bytes

pub record Bench : Type 0 where
  pub P1-list : sheet_list ABseries ≡ focal 1 3 3 ∷ focal 1 1 6 ∷ focal 0 0 3 ∷ []
  pub P1 : asked ABseries 2 ≡ accepted 12 0 3 4 3
  pub P2-list : sheet_list ABshared ≡ focal 3 7 3 ∷ focal 3 4 6 ∷ focal 1 4 1 ∷ focal 1 1 2 ∷ []
  pub P2 : asked ABshared 1 ≡ accepted 12 12 12 4 4
  pub P3 : asked ABshared 3 ≡ accepted 12 9 10 4 4
  pub P4-seven : asked ABshared 7 ≡ accepted 12 0 3 4 4
  pub P4-eight : asked ABshared 8 ≡ accepted 12 0 0 4 4
  pub P5 : asked ABshared 0 ≡ accepted 12 12 12 4 4
  pub P6-list : sheet_list ABspare ≡ focal 2 4 3 ∷ focal 2 3 6 ∷ focal 1 4 1 ∷ focal 1 1 2 ∷ []
  pub P6 : asked ABspare 2 ≡ accepted 12 9 10 4 4
  pub P7-list : sheet_list W ≡ focal 7 10 429 ∷ focal 3 8 2211 ∷ focal 0 6 5360 ∷ focal 0 4 2000 ∷ []
  pub P7 : asked W 0 ≡ accepted 10000 10000 10000 6 4
  pub P8 : asked W 7 ≡ accepted 10000 429 2640 6 4
  pub P9-four : answer ABshared 3 4 store_bytes ≡ accepted 12 9 10 4 4
  pub P9-three : answer ABshared 3 3 store_bytes ≡ refusal 13
  pub P10 : asked (AB (0x80 ∷ 0x10 ∷ [])) 0 ≡ refusal 11
  pub top_and_one_list : sheet_list top_and_one ≡ focal 4095 4095 1 ∷ []
  pub top_and_one_asked : asked top_and_one 4095 ≡ accepted 1 1 1 1 1
  pub above_top : asked top_and_one 4096 ≡ accepted 1 0 0 1 1
  pub store_9216 : answer ABshared 3 1000 9216 ≡ accepted 12 9 10 4 4
  pub store_9215 : answer ABshared 3 1000 9215 ≡ refusal 12
