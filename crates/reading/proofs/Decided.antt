-- The number of a sheet is that of the first of its tests that is broken, and 0 where none is. Assumes nothing.
use borrow.Author.Tests.{ltb-false, eqb-true, not-false}
use mathlib.Core.Path.{◌≡◌, refl, sym, ap, ◌∙◌}
use mathlib.Core.Bool.{Bool, false, not}
use mathlib.Core.List.{List}
use Prim.Native.Nat.{ℕ, zero, suc, ◌+◌, ◌*◌, ◌≤◌, ◌<◌}
use native.Mathlib.Omega.{arith}
use lib.Dec.{ltb, eqb}
use lib.ListN.{length}
use Rattle.theory.specs.Sums.{count_from, Every, none, more}
use Rattle.theory.specs.Limits.{most_components, entry_count}
use Rattle.theory.specs.declared.Component.{Component}
use Rattle.field.specs.Bits.{field_at}
use Rattle.block.specs.Block.{cut_short, bad_zero_bits, component_in}
use Rattle.block.proofs.Laws.{neither}
use Rattle.plan.specs.declared.Plan.{Plan}
use Rattle.plan.specs.Plan.{components_of, zero_plan}
use Rattle.plan.specs.Tests.{first_broken, any_of, Unbroken}
use Rattle.plan.specs.Rules.{bad_total, bad_intervals, bad_sum, rules}
use Rattle.plan.proofs.Tests.{any_map, any_below, within}
use Rattle.plan.proofs.Numbers.{no_number, accepted_by, refused_by}
use Rattle.reading.specs.Reading.{Reading, edition_in, component_count, length_in, start_of, block_at, structure_place, plan_in, any_cut, bad_layout, any_nonzero, bad_zeros, sheet_tests, block_tests, reading, read_of, Decided}
use Rattle.reading.proofs.SheetLayout.{components_are}

reading-number : (k : ℕ) (p : Plan) → (reading k p).number ≡ k
reading-number zero p = refl
reading-number (suc k) p = refl

pub refuses : (k : ℕ) (p : Plan) → (k ≡ 0 → ⊥) → reading k p ≡ record { number = k; plan = zero_plan }
refuses zero p h = absurd (h refl)
refuses (suc k) p h = refl

module _ (s : List ℕ) where
  pub read_number_is : (read_of s).number ≡ first_broken (sheet_tests s)
  unfolding read_of
  read_number_is = reading-number (first_broken (sheet_tests s)) (plan_in s)

  pub read_accepted : (read_of s).number ≡ 0 → read_of s ≡ record { number = 0; plan = plan_in s }
  unfolding read_of
  read_accepted e = rw (sym read_number_is ∙ e)

  pub reads_refused : (k : ℕ) → (k ≡ 0 → ⊥) → k ≡ first_broken (sheet_tests s) → record { number = k; plan = zero_plan } ≡ read_of s
  unfolding read_of
  reads_refused k h e = sym (refuses k (plan_in s) h) ∙ ap (λ x. reading x (plan_in s)) e

  pub read_refused : (k : ℕ) → 0 < k → (read_of s).number ≡ k → read_of s ≡ record { number = k; plan = zero_plan }
  read_refused k h e = sym (reads_refused k (λ z. omega arith) (sym e ∙ read_number_is))

-- What an accepted sheet keeps, rule by rule.
pub record Sound (s : List ℕ) : Type 0 where
  pub long : 2 ≤ length s
  pub said : length_in s ≡ length s
  pub edition : edition_in s ≡ 1
  pub least : 1 ≤ component_count s
  pub most : component_count s ≤ most_components
  pub uncut : (i : ℕ) → i < component_count s → cut_short (block_at s i) ≡ false
  pub ends : start_of s (component_count s) + component_count s ≡ length s
  pub zeroes : (i : ℕ) → i < component_count s → bad_zero_bits (block_at s i) ≡ false
  pub last : field_at s (structure_place s + 4 * entry_count (component_count s)) 4 ≡ 0
  pub others : Every Unbroken (rules (plan_in s))

pub sound : (s : List ℕ) → (read_of s).number ≡ 0 → Sound s
unfolding bad_layout bad_zeros
sound s e = go (no_number 11 (sheet_tests s) refl (sym (read_number_is s) ∙ e))
  where
    go : Every Unbroken (sheet_tests s) → Sound s
    go (more e₁ (more e₂ (more e₃ (more e₄ (more e₅ es))))) =
        let n = within 1 most_components (component_count s) e₃ in
        let a = neither (ltb (length s) 2) (not (eqb (length_in s) (length s))) e₁ in
        let b = neither (any_cut s (component_count s)) (not (eqb (start_of s (component_count s) + component_count s) (length s))) e₄ in
        let d = neither (any_nonzero s (component_count s)) (not (eqb (field_at s (structure_place s + 4 * entry_count (component_count s)) 4) 0)) e₅ in
        record {
          long = ltb-false (length s) 2 a.0;
          said = eqb-true (length_in s) (length s) (not-false _ a.1);
          edition = eqb-true (edition_in s) 1 (not-false _ e₂);
          least = n.0;
          most = n.1;
          uncut = λ i l. any_below (λ j. cut_short (block_at s j)) 0 (component_count s) i b.0 (omega arith) (omega arith);
          ends = eqb-true _ _ (not-false _ b.1);
          zeroes = λ i l. any_below (λ j. bad_zero_bits (block_at s j)) 0 (component_count s) i d.0 (omega arith) (omega arith);
          last = eqb-true _ _ (not-false _ d.1);
          others = es;
        }

-- A rule that no component of the plan breaks is kept by each block.
block_keeps : (s : List ℕ) → Sound s → (f : Component → Bool) → any_of f (components_of (plan_in s)) ≡ false → (i : ℕ) → i < component_count s
    → f (component_in (block_at s i)) ≡ false
block_keeps s a f e i l =
    let g : ℕ → Component = λ j. component_in (block_at s j) in
    let d = sym (any_map f g (count_from 0 (component_count s))) ∙ ap (any_of f) (sym (components_are s a.most)) ∙ e in
    any_below (λ j. f (g j)) 0 (component_count s) i d (omega arith) (omega arith)

blocks_keep : (s : List ℕ) → Sound s → (i : ℕ) → i < component_count s → Every Unbroken (block_tests (block_at s i))
blocks_keep s a i l = go a.others
  where
    go : Every Unbroken (rules (plan_in s)) → Every Unbroken (block_tests (block_at s i))
    go (more e₆ (more e₇ (more e₈ es))) =
        more (a.zeroes i l)
        (more (block_keeps s a bad_total e₆ i l) (more (block_keeps s a bad_intervals e₇ i l) (more (block_keeps s a bad_sum e₈ i l) none)))

pub decided : (s : List ℕ) → Decided s
decided s =
    record {
      accepted = rw (read_number_is s) (accepted_by 11 (sheet_tests s) refl);
      plan_is = λ e. ap (λ (r : Reading). r.plan) (read_accepted s e);
      blocks_keep = λ e. blocks_keep s (sound s e);
      refused_by = λ k h. rw (read_number_is s) (refused_by (sheet_tests s) k h);
      zeros = λ k h e. ap (λ (r : Reading). r.plan) (read_refused s k h e);
    }
