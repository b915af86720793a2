-- What stands behind a sheet's head: numbers 4 and 5 of it, and the plan that it spells. Assumes nothing.
use borrow.Author.Tests.{not-false, eqb-true, ltb-false}
use mathlib.Core.Path.{◌≡◌, refl}
use mathlib.Core.Bool.{false, not}
use mathlib.Core.List.{List, ◌++◌}
use Prim.Native.Nat.{ℕ, zero, suc, ◌+◌, ◌*◌, ◌≤◌, ◌<◌}
use native.Mathlib.Omega.{arith}
use lib.ListN.{length}
use lib.Dec.{ltb, eqb}
use Rattle.theory.specs.Sums.{Every, none, more}
use Rattle.theory.specs.Limits.{most_components, entry_count}
use Rattle.theory.specs.Lists.{no_component}
use Rattle.field.proofs.FieldLaws.{field_lt}
use Rattle.block.proofs.Rows.{row_used}
use Rattle.block.proofs.Laws.{neither}
use Rattle.block.specs.Block.{component_in, zero_component}
use Rattle.plan.specs.declared.Plan.{Plan}
use Rattle.plan.specs.Plan.{component_at, components_of, structure_in}
use Rattle.plan.specs.Tests.{first_broken, Unbroken}
use Rattle.plan.specs.Rules.{flaw_tests, structure_tests, rules, Counted}
use Rattle.plan.proofs.Tests.{map_below}
use Rattle.plan.proofs.Numbers.{no_number}
use Rattle.plan.proofs.Valid.{counted}
use Rattle.reading.specs.declared.Blocks.{Blocks}
use Rattle.reading.specs.Reading.{component_count, length_in, head_tests, head_of, head_in, start_of, block_at, entries_at, plan_in, any_cut, bad_layout, block_components, uncut_blocks}

-- The number of what a head answers.
pub head_of_number : (k n : ℕ) → (head_of k n).number ≡ k
head_of_number zero n = refl
head_of_number (suc k) n = refl

module _ (s : List ℕ) where
  pub head_number : (head_in s).number ≡ first_broken (head_tests s)
  unfolding head_in
  head_number = head_of_number (first_broken (head_tests s)) (component_count s)

  pub head_count : first_broken (head_tests s) ≡ 0 → (head_in s).count ≡ component_count s
  unfolding head_in
  head_count e = rw e

-- What a sheet that keeps 1, 2 and 3 has.
pub record Headed (s : List ℕ) : Type 0 where
  pub kept : Every Unbroken (head_tests s)
  pub long : 2 ≤ length s
  pub short : length s ≤ 255
  pub counted : Counted (component_count s)

pub headed : (s : List ℕ) → first_broken (head_tests s) ≡ 0 → Headed s
headed s e = go (no_number 3 (head_tests s) refl e)
  where
    go : Every Unbroken (head_tests s) → Headed s
    go (more e₁ (more e₂ (more e₃ none))) =
        let a = neither (ltb (length s) 2) (not (eqb (length_in s) (length s))) e₁ in
        record {
          kept = more e₁ (more e₂ (more e₃ none));
          long = ltb-false (length s) 2 a.0;
          short = omega (arith, eqb-true (length_in s) (length s) (not-false _ a.1), field_lt s 8 8);
          counted = counted (component_count s) e₃;
        }

-- The plan's components are those of the blocks.
pub component_is : (s : List ℕ) (i : ℕ) → i < component_count s → component_count s ≤ most_components → component_at (plan_in s) i ≡ component_in (block_at s i)
unfolding plan_in
component_is s i h l = row_used zero_component most_components no_component (λ j. component_in (block_at s j)) (component_count s) i h l

pub components_are : (s : List ℕ) → component_count s ≤ most_components → components_of (plan_in s) ≡ block_components s (component_count s)
unfolding plan_in
components_are s l =
    map_below (component_at (plan_in s)) (λ i. component_in (block_at s i)) 0 (component_count s) (λ i a b. component_is s i (omega arith) l)

module _ (s : List ℕ) (n : ℕ) (en : n ≡ component_count s) where
  -- Where 4 is kept, n bytes stand behind the last block.
  pub layout_ends : bad_layout s ≡ false → start_of s n + n ≡ length s
  unfolding bad_layout
  layout_ends z =
      let b = neither (any_cut s (component_count s)) (not (eqb (start_of s (component_count s) + component_count s) (length s))) z in
      rw en (eqb-true _ _ (not-false _ b.1))

  -- What is read where no block is cut short.
  module _ (r : Blocks) (w : r ≡ uncut_blocks s n) (es : List ℕ) (d : es ≡ entries_at s (8 * r.end) (entry_count n)) where
    pub plan_read : ◌≡◌ {A = Plan} (record { components = r.components; count = n; entries = es }) (plan_in s)
    unfolding plan_in
    plan_read = rw (d, w, ← en)

    -- The tests 6 to 11 of that plan, where 6, 7 and 8 were tested block by block.
    pub rules_read : n ≤ most_components → flaw_tests r.flaws ++ structure_tests n (structure_in es n) ≡ rules (plan_in s)
    unfolding plan_in
    rules_read l = rw (d, w, components_are s (rw (← en) l), ← en)
