-- What a sheet reads as: the first of the numbers 1 to 11 that applies, each about the whole sheet, or 0 and the plan. Assumes nothing.
use Rattle.std.specs.Prelude.{ℕ, zero, suc, ◌+◌, ◌*◌, ◌≤◌, ◌<◌, ◌≡◌, Bool, cond, not, ◌||◌, ◌↔◌, Option, Some, None, Result, Ok, Err, List, [], ◌∷◌, ◌++◌, map, ltb, eqb, length, drop}
use Rattle.theory.specs.Sums.{count_from, Every}
use Rattle.theory.specs.Limits.{most_components, most_entries, entry_count}
use Rattle.theory.specs.declared.Component.{Component}
use Rattle.theory.specs.declared.Refusal.{Refusal}
use Rattle.theory.specs.Refusals.{refusal_number}
use Rattle.field.specs.Bits.{field_at}
use Rattle.block.specs.Rows.{row}
use Rattle.block.specs.Block.{size_of, count_in, cut_short, bad_zero_bits, zero_component, component_in}
use Rattle.plan.specs.declared.Plan.{Plan}
use Rattle.plan.specs.Tests.{Test, test, first_broken, any_of, Unbroken, First}
use Rattle.plan.specs.Sheet.{head_bytes, edition, edition_bits, component_count_bits, length_bits, entry_bits}
use Rattle.plan.specs.Plan.{zero_plan}
use Rattle.plan.specs.Rules.{rule3, flaws_of, flaws_in, flaw_tests, rules, Counted}
use Rattle.reading.specs.declared.Blocks.{Blocks}

-- The edition in a sheet's head.
abbrev pub edition_in : List ℕ → ℕ
edition_in s = field_at s 0 edition_bits

-- The component count n in the head.
abbrev pub component_count : List ℕ → ℕ
component_count s = field_at s edition_bits component_count_bits

-- The sheet length in bytes in the head: the length byte.
abbrev pub length_in : List ℕ → ℕ
length_in s = field_at s (edition_bits + component_count_bits) length_bits

-- The byte at which block i starts: behind the head, then each behind the one before it.
unfoldable pub start_of : List ℕ → ℕ → ℕ
start_of s zero = head_bytes
start_of s (suc i) = start_of s i + size_of (count_in (drop (start_of s i) s))

-- Block i, and the rest of the sheet behind it.
abbrev pub block_at : List ℕ → ℕ → List ℕ
block_at s i = drop (start_of s i) s

-- The bit at which the structure starts.
abbrev pub structure_place : List ℕ → ℕ
structure_place s = 8 * start_of s (component_count s)

-- The components of the first n blocks; and the same as a plan holds them, with zero in the unused places.
abbrev pub block_components : List ℕ → ℕ → List Component
block_components s n = map (λ i. component_in (block_at s i)) (count_from 0 n)

abbrev pub components_in : List ℕ → ℕ → List Component
components_in s n = row zero_component most_components (λ i. component_in (block_at s i)) n

-- The m codes from bit a on, with zero in the unused places.
abbrev pub entries_at : List ℕ → ℕ → ℕ → List ℕ
entries_at s a m = row 0 most_entries (λ j. field_at s (a + entry_bits * j) entry_bits) m

-- The plan that a sheet's fields spell.
unfoldable pub plan_in : List ℕ → Plan
plan_in s =
    record {
      components = components_in s (component_count s);
      count = component_count s;
      entries = entries_at s (structure_place s) (entry_count (component_count s));
    }

-- 1. The sheet has fewer than 2 bytes, or its length byte is not its length.
abbrev pub bad_length : List ℕ → Bool
bad_length s = ltb (length s) head_bytes || not (eqb (length_in s) (length s))

-- 2. The edition is not 1.
abbrev pub bad_edition : List ℕ → Bool
bad_edition s = not (eqb (edition_in s) edition)

-- One of the first n blocks is cut short or its k is not 1 to 8.
abbrev pub any_cut : List ℕ → ℕ → Bool
any_cut s n = any_of (λ i. cut_short (block_at s i)) (count_from 0 n)

-- 4. Reading blocks in turn, a block is cut short or its k is not 1 to 8, or after the last block there are not exactly n bytes.
unfoldable pub bad_layout : List ℕ → Bool
bad_layout s = any_cut s (component_count s) || not (eqb (start_of s (component_count s) + component_count s) (length s))

-- A bit named zero is one in one of the first n blocks.
abbrev pub any_nonzero : List ℕ → ℕ → Bool
any_nonzero s n = any_of (λ i. bad_zero_bits (block_at s i)) (count_from 0 n)

-- 5. A bit named zero is one, in a block or in the last four bits.
unfoldable pub bad_zeros : List ℕ → Bool
bad_zeros s =
    any_nonzero s (component_count s) || not (eqb (field_at s (structure_place s + entry_bits * entry_count (component_count s)) entry_bits) 0)

-- The tests 1 to 3, of the head.
abbrev pub head_tests : List ℕ → List Test
head_tests s = test 1 (bad_length s) ∷ test 2 (bad_edition s) ∷ test 3 (rule3 (component_count s)) ∷ []

-- The tests 4 and 5, of the layout.
abbrev pub layout_tests : List ℕ → List Test
layout_tests s = test 4 (bad_layout s) ∷ test 5 (bad_zeros s) ∷ []

-- The tests 1 to 11 in their order.
abbrev pub sheet_tests : List ℕ → List Test
sheet_tests s = head_tests s ++ (layout_tests s ++ rules (plan_in s))

-- The tests 5 to 8 of the one block at the front of s.
abbrev pub block_tests : List ℕ → List Test
block_tests s = test 5 (bad_zero_bits s) ∷ flaw_tests (flaws_of (component_in s))

-- What a sheet reads as: the number and a plan.
pub record Reading : Type 0 where
  pub number : ℕ
  pub plan : Plan

-- An accepted sheet's plan; a refused sheet reads as a plan of zeros.
abbrev pub reading : ℕ → Plan → Reading
reading zero p = record { number = 0; plan = p }
reading (suc k) p = record { number = suc k; plan = zero_plan }

-- The number and the plan of each case of the reader's answer.
abbrev pub reading_as : Result Plan Refusal → Reading
reading_as (Ok p) = reading 0 p
reading_as (Err refusal) = reading (refusal_number refusal) zero_plan

-- What a sheet reads as.
unfoldable pub read_of : List ℕ → Reading
read_of s = reading (first_broken (sheet_tests s)) (plan_in s)

-- The reader, for every sheet: accepted exactly when no rule is broken, and then the plan is that of its fields, and each block by itself
-- keeps 5 to 8; otherwise the number is that of the first rule that is broken, and the plan is zero.
pub record Decided (s : List ℕ) : Type 0 where
  pub accepted : ((read_of s).number ≡ 0) ↔ Every Unbroken (sheet_tests s)
  pub plan_is : (read_of s).number ≡ 0 → (read_of s).plan ≡ plan_in s
  pub blocks_keep : (read_of s).number ≡ 0 → (i : ℕ) → i < component_count s → Every Unbroken (block_tests (block_at s i))
  pub refused_by : (k : ℕ) → 0 < k → ((read_of s).number ≡ k) ↔ First (sheet_tests s) k
  pub zeros : (k : ℕ) → 0 < k → (read_of s).number ≡ k → (read_of s).plan ≡ zero_plan

-- What the reader's parts find. The head: its number and the count 0, or 0 and the count.
pub record Head : Type 0 where
  pub number : ℕ
  pub count : ℕ

abbrev pub head_of : ℕ → ℕ → Head
head_of zero n = record { number = 0; count = n }
head_of (suc k) n = record { number = suc k; count = 0 }

-- The same of each case of what reading a head answers.
abbrev pub head_as : Result ℕ Refusal → Head
head_as (Ok n) = head_of 0 n
head_as (Err refusal) = head_of (refusal_number refusal) 0

unfoldable pub head_in : List ℕ → Head
head_in s = head_of (first_broken (head_tests s)) (component_count s)

-- The first n blocks, read in turn, where none is cut short.
abbrev pub uncut_blocks : List ℕ → ℕ → Blocks
uncut_blocks s n =
    record {
      components = components_in s n;
      nonzero = any_nonzero s n;
      flaws = flaws_in (block_components s n);
      end = start_of s n;
    }

-- The first n blocks: none where one is cut short.
unfoldable pub blocks_in : List ℕ → ℕ → Option Blocks
blocks_in s n = cond (any_cut s n) None (Some (uncut_blocks s n))

-- What the layout's tests are told of a sheet that keeps 1 to 3 and of its blocks.
pub record BlocksFound (s : List ℕ) (n : ℕ) (blocks : Option Blocks) : Type 0 where
  pub count : n ≡ component_count s
  pub counted : Counted n
  pub short : length s ≤ 255
  pub found : blocks ≡ blocks_in s n
