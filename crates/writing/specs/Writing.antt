-- What a plan is written as: its sheet as a row of fields, the writer's answer, and the buffer's bytes afterwards. Assumes nothing.
use Rattle.std.specs.Prelude.{ℕ, zero, suc, ◌+◌, ◌≡◌, Result, Ok, Err, List, [], ◌∷◌, ◌++◌, map, ltb, length}
use Rattle.theory.specs.Sums.{sum_by, for_each}
use Rattle.field.specs.Fields.{bits, put_all}
use Rattle.field.specs.declared.Field.{Field}
use Rattle.block.specs.Block.{size_of, fields_of}
use Rattle.plan.specs.declared.Plan.{Plan}
use Rattle.theory.specs.declared.Refusal.{Refusal}
use Rattle.theory.specs.Refusals.{refusal_number}
use Rattle.plan.specs.Tests.{Test, test, first_broken}
use Rattle.plan.specs.Sheet.{head_bytes, edition, edition_bits, component_count_bits, length_bits, entry_bits}
use Rattle.plan.specs.Plan.{components_of, codes_of, cleaned_plan}
use Rattle.plan.specs.Rules.{rule3, rule4, rules}

-- The byte behind the last block: head, then the blocks.
abbrev pub end_of : Plan → ℕ
end_of p = head_bytes + sum_by (λ c. size_of c.count) (components_of p)

-- The bytes of a plan's sheet: behind the blocks, a byte of structure for each component.
unfoldable pub length_of : Plan → ℕ
length_of p = end_of p + p.count

-- The head as fields: edition 1, n, the length.
abbrev pub head_fields : ℕ → ℕ → List Field
head_fields n len = bits edition_bits edition ∷ bits component_count_bits n ∷ bits length_bits len ∷ []

-- The blocks as fields.
abbrev pub block_fields : Plan → List Field
block_fields p = for_each (components_of p) fields_of

-- The structure as fields: the codes, then four zero bits.
abbrev pub structure_fields : Plan → List Field
structure_fields p = map (bits entry_bits) (codes_of p) ++ (bits entry_bits 0 ∷ [])

-- The sheet of a plan, as fields in a row.
unfoldable pub sheet_fields : Plan → List Field
sheet_fields p = head_fields p.count (length_of p) ++ (block_fields p ++ structure_fields p)

-- The writer's tests of the plan itself: 3, 4 (only k), 6 to 11.
abbrev pub plan_tests : Plan → List Test
plan_tests p = test 3 (rule3 p.count) ∷ test 4 (rule4 (components_of p)) ∷ rules p

-- The writer's tests: those of the plan, then 15, the buffer is shorter than the sheet.
abbrev pub writer_tests : Plan → ℕ → List Test
writer_tests p room = plan_tests p ++ (test 15 (ltb room (length_of p)) ∷ [])

-- The least of the writer's numbers that applies to a plan and a buffer of room bytes, or 0.
abbrev pub number_of : Plan → ℕ → ℕ
number_of p room = first_broken (writer_tests p room)

-- The number and the sheet's length, 0 where it is refused.
pub record Written : Type 0 where
  pub number : ℕ
  pub length : ℕ

abbrev pub written : ℕ → ℕ → Written
written zero len = record { number = 0; length = len }
written (suc k) len = record { number = suc k; length = 0 }

-- The same of each case of the writer's answer.
abbrev pub written_as : Result ℕ Refusal → Written
written_as (Ok len) = written 0 len
written_as (Err refusal) = written (refusal_number refusal) 0

-- What the writer answers.
unfoldable pub written_of : Plan → ℕ → Written
written_of p room = written (number_of p room) (length_of p)

-- Refused, nothing is written; accepted, the sheet stands at the front and the bytes behind it are untouched.
abbrev pub bytes_by : ℕ → List ℕ → List Field → List ℕ
bytes_by zero buffer fields = put_all buffer 0 fields
bytes_by (suc k) buffer fields = buffer

-- The buffer's bytes afterwards.
unfoldable pub bytes_after : Plan → List ℕ → List ℕ
bytes_after p buffer = bytes_by (number_of p (length buffer)) buffer (sheet_fields p)

-- The writer ignores unused places, for every plan and buffer: with zero in them it answers and writes the same.
pub record IgnoresUnused (p : Plan) (buffer : List ℕ) : Type 0 where
  pub answer : written_of (cleaned_plan p) (length buffer) ≡ written_of p (length buffer)
  pub bytes : bytes_after (cleaned_plan p) buffer ≡ bytes_after p buffer
