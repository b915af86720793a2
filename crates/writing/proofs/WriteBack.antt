-- An accepted sheet holds the fields of the plan that it reads as. Assumes nothing.
use mathlib.Core.Path.{◌≡◌, refl, sym, ap, ◌∙◌}
use mathlib.Core.Bool.{false}
use mathlib.Core.List.{List, [], ◌∷◌, map}
use Prim.Native.Nat.{ℕ, zero, suc, ◌+◌, ◌*◌, ◌≤◌, ◌<◌}
use native.Mathlib.Nat.{add-zero, zero-add, add-suc, suc-add}
use native.Mathlib.Numerals.{add-one}
use native.Mathlib.Omega.{arith}
use lib.ListN.{length, get_or}
use Rattle.theory.specs.Sums.{count_from}
use Rattle.theory.specs.Limits.{most_held, most_components, most_entries, entry_count}
use Rattle.theory.specs.declared.Component.{Component}
use Rattle.field.specs.Bits.{field_at}
use Rattle.field.specs.Fields.{bits, width_of, Holds}
use Rattle.field.proofs.Fields.{holds_append, holds_undrop}
use Rattle.block.proofs.Rows.{row_used}
use Rattle.block.specs.Block.{count_in, component_in, component_of, fields_of}
use Rattle.block.proofs.Laws.{uncut}
use Rattle.block.proofs.RoundTrip.{width_fields_of, written_read}
use Rattle.plan.specs.Plan.{component_at, components_of, codes_of}
use Rattle.plan.specs.Rules.{rule3, bad_count, rule4}
use Rattle.plan.proofs.Loops.{from_next, from_end}
use Rattle.plan.proofs.Tests.{any_map, none_below, not_outside}
use Rattle.reading.specs.Reading.{component_count, start_of, block_at, structure_place, plan_in}
use Rattle.reading.proofs.SheetLayout.{component_is}
use Rattle.reading.proofs.Decided.{Sound}
use Rattle.writing.specs.Writing.{end_of, length_of, block_fields, structure_fields, sheet_fields}
use Rattle.writing.proofs.Sizes.{bytes_left, fields_left, bytes_start, bytes_next, bytes_end, fields_start, width_blocks, width_of_codes}

-- Codes in a row.
codes_hold : (s : List ℕ) (g : ℕ → ℕ) (a k m : ℕ) → ((j : ℕ) → j < m → field_at s (a + 4 * j) 4 ≡ g (k + j)) → Holds s a (map (bits 4) (map g (count_from k m)))
unfolding Holds
codes_hold s g a k zero h = tt
codes_hold s g a k (suc m) h =
    let e : a + 4 * 0 ≡ a = omega arith in
    (rw (e, add-zero k) at (h 0 (omega arith)), codes_hold s g (a + 4) (suc k) m (λ j l. next j (h (suc j) (omega arith))))
  where
    next : (j : ℕ) → field_at s (a + 4 * suc j) 4 ≡ g (k + suc j) → field_at s (a + 4 + 4 * j) 4 ≡ g (suc k + j)
    next j e =
        let d : a + 4 * suc j ≡ a + 4 + 4 * j = omega arith in
        rw (d, add-suc k j, ← suc-add k j) at e

module _ (s : List ℕ) (a : Sound s) where
  component_at_is : (i : ℕ) → i < component_count s → component_at (plan_in s) i ≡ component_in (block_at s i)
  component_at_is i l = component_is s i l a.most

  count_at : (i : ℕ) → i < component_count s → (component_at (plan_in s) i).count ≡ count_in (block_at s i)
  unfolding component_of
  count_at i l = ap (λ (c : Component). c.count) (component_at_is i l)

  plan_count : (plan_in s).count ≡ component_count s
  unfolding plan_in
  plan_count = refl

  pub counts_kept : rule4 (components_of (plan_in s)) ≡ false
  unfolding rule4
  counts_kept =
      any_map bad_count (component_at (plan_in s)) (count_from 0 (plan_in s).count)
      ∙ none_below (λ i. bad_count (component_at (plan_in s) i)) 0 (plan_in s).count
      (λ i x y.
      let l : i < component_count s = omega (arith, plan_count) in
      let w = uncut (block_at s i) (a.uncut i l) in
      rw (count_at i l) (not_outside 1 most_held (count_in (block_at s i)) w.least w.most))

  pub count_kept : rule3 (plan_in s).count ≡ false
  count_kept = rw plan_count (not_outside 1 most_components (component_count s) a.least a.most)

  start_at : (i : ℕ) → i ≤ component_count s → start_of s i + bytes_left (plan_in s) i ≡ end_of (plan_in s)
  unfolding start_of
  start_at zero l = bytes_start (plan_in s)
  start_at (suc i) l =
      rw (← count_at i l, ← add-one i) (omega (arith, start_at i (omega arith), bytes_next (plan_in s) i (omega (arith, plan_count))))

  end_at : start_of s (component_count s) ≡ end_of (plan_in s)
  end_at = omega (arith, start_at (component_count s) (omega arith), bytes_end (plan_in s) (component_count s) (omega (arith, plan_count)))

  pub length_at : length_of (plan_in s) ≡ length s
  unfolding length_of
  length_at = omega (arith, plan_count, end_at, a.ends)

  -- The blocks from i on, d of them.
  blocks_at : (d i : ℕ) → i + d ≡ component_count s → Holds s (8 * start_of s i) (fields_left (plan_in s) i)
  unfolding Holds start_of
  blocks_at zero i e = rw (from_end i (plan_in s).count (omega (arith, plan_count))) tt
  blocks_at (suc d) i e =
      let p = plan_in s in
      let c = component_at p i in
      let l : i < component_count s = omega arith in
      let h : Holds (block_at s i) 0 (fields_of c) = rw (component_at_is i l) (written_read (block_at s i) (a.uncut i l) (a.zeroes i l)) in
      let f : Holds s (8 * start_of s i) (fields_of c) = rw add-zero at (holds_undrop s (start_of s i) 0 (fields_of c) h) in
      let w : 8 * start_of s (i + 1) ≡ 8 * start_of s i + width_of (fields_of c) = rw (add-one i, width_fields_of c, count_at i l) (omega arith) in
      rw (from_next i p.count (omega (arith, plan_count)))
      (holds_append s (8 * start_of s i) (fields_of c) (fields_left p (i + 1)) f (rw w at (blocks_at d (i + 1) (omega arith))))

  codes_at : Holds s (8 * end_of (plan_in s)) (map (bits 4) (codes_of (plan_in s)))
  unfolding plan_in
  codes_at =
      codes_hold s (λ j. get_or (plan_in s).entries j 0) (8 * end_of (plan_in s)) 0 (entry_count (component_count s))
      (λ j l. rw (← end_at, zero-add) (sym (row_used 0 most_entries 0 (λ i. field_at s (structure_place s + 4 * i) 4) (entry_count (component_count s)) j l (omega (arith, a.most)))))

  pub sheet_held : Holds s 0 (sheet_fields (plan_in s))
  unfolding sheet_fields Holds start_of
  sheet_held =
      let p = plan_in s in
      let w : 16 + width_of (block_fields p) ≡ 8 * end_of p = rw (width_blocks (components_of p)) (omega arith) in
      let b : Holds s 16 (block_fields p) = rw (fields_start p) at (blocks_at (component_count s) 0 (omega arith)) in
      let l : field_at s (8 * end_of p + width_of (map (bits 4) (codes_of p))) 4 ≡ 0 = rw (width_of_codes p, ← end_at, plan_count) a.last in (
        a.edition,
        (
          sym plan_count,
          (
            a.said ∙ sym length_at,
            holds_append s 16 (block_fields p) (structure_fields p) b
                (rw w (holds_append s (8 * end_of p) (map (bits 4) (codes_of p)) (bits 4 0 ∷ []) codes_at (l, tt))),
          ),
        ),
      )
