-- Bytes that hold the fields of an accepted plan read as that plan. Assumes nothing.
use borrow.Author.Tests.{le-ltb, eq-eqb}
use mathlib.Core.Path.{◌≡◌, sym, ap, ◌∙◌}
use mathlib.Core.Bool.{true, false}
use mathlib.Core.List.{List, [], ◌∷◌, ◌++◌, map}
use Prim.Native.Nat.{ℕ, zero, suc, ◌+◌, ◌*◌, ◌≤◌, ◌<◌}
use native.Mathlib.Nat.{add-zero, zero-add, add-suc, suc-add}
use native.Mathlib.Numerals.{add-one}
use native.Mathlib.Omega.{arith}
use lib.Dec.{ltb, eqb}
use lib.ListN.{length, get_or, length-drop}
use Rattle.theory.specs.Sums.{count_from}
use Rattle.field.specs.Bits.{field_at}
use Rattle.field.specs.Fields.{bits, width_of, Holds}
use Rattle.field.proofs.Fields.{holds_left, holds_right, holds_drop}
use Rattle.block.proofs.Rows.{row_ext}
use Rattle.block.specs.Block.{size_of, count_in, cut_short, bad_zero_bits, component_in, zero_component, fields_of, cleaned}
use Rattle.block.proofs.RoundTrip.{width_fields_of, read_written}
use Rattle.plan.specs.declared.Plan.{Plan}
use Rattle.plan.specs.Tests.{first_broken}
use Rattle.theory.specs.Limits.{most_components, most_entries, entry_count}
use Rattle.plan.specs.Plan.{component_at, components_of, codes_of, cleaned_plan}
use Rattle.plan.specs.Rules.{rule3, rules, Sized}
use Rattle.reading.specs.Reading.{edition_in, component_count, length_in, start_of, block_at, plan_in, bad_layout, bad_zeros, read_of}
use Rattle.writing.specs.Writing.{end_of, length_of, block_fields, structure_fields, sheet_fields}
use Rattle.theory.proofs.Every.{every_map}
use Rattle.writing.proofs.Cleaned.{rules_cleaned}
use Rattle.plan.proofs.Loops.{from_next}
use Rattle.plan.specs.Valid.{Valid}
use Rattle.writing.proofs.Sizes.{bytes_left, fields_left, bytes_start, bytes_next, bytes_end, fields_start, width_blocks, width_of_codes}
use Rattle.plan.proofs.Tests.{none_below, every_below, not_outside}

-- Codes in a row.
pub codes_held : (s : List ℕ) (g : ℕ → ℕ) (a k m j : ℕ) → Holds s a (map (bits 4) (map g (count_from k m))) → j < m → field_at s (a + 4 * j) 4 ≡ g (k + j)
unfolding Holds
codes_held s g a k zero j h l = absurd (omega arith)
codes_held s g a k (suc m) zero h l =
    let e : a + 4 * 0 ≡ a = omega arith in
    rw (e, add-zero) h.0
codes_held s g a k (suc m) (suc j) h l =
    let e : a + 4 * suc j ≡ a + 4 + 4 * j = omega arith in
    rw (e, add-suc k j, ← suc-add k j) (codes_held s g (a + 4) (suc k) m j h.1 (omega arith))

module _ (t : List ℕ) (p : Plan) (z : Sized p) (k : Valid p) (h : Holds t 0 (sheet_fields p)) (len : length t ≡ length_of p) where
  edition_held : edition_in t ≡ 1
  unfolding sheet_fields Holds
  edition_held = h.0

  count_held : p.count ≡ component_count t
  unfolding sheet_fields Holds
  count_held = sym h.1.0

  length_held : length_in t ≡ length_of p
  unfolding sheet_fields Holds
  length_held = h.1.1.0

  body_held : Holds t 16 (block_fields p ++ structure_fields p)
  unfolding sheet_fields Holds
  body_held = h.1.1.1

  structure_held : Holds t (8 * end_of p) (structure_fields p)
  structure_held =
      let w : 16 + width_of (block_fields p) ≡ 8 * end_of p = rw (width_blocks (components_of p)) (omega arith) in
      rw w at (holds_right t 16 (block_fields p) (structure_fields p) body_held)

  -- Where block i starts, and what is held from there on.
  abbrev Reached : ℕ → Type 0
  Reached i = (start_of t i + bytes_left p i ≡ end_of p) × Holds t (8 * start_of t i) (fields_left p i)

  fields_split : (i : ℕ) → i < p.count → Reached i → Holds t (8 * start_of t i) (fields_of (component_at p i) ++ fields_left p (i + 1))
  fields_split i l a = rw (from_next i p.count l) at a.1

  -- What block i reads as.
  abbrev Block : ℕ → Type 0
  Block i =
      (count_in (block_at t i) ≡ (component_at p i).count) × (cut_short (block_at t i) ≡ false) × (bad_zero_bits (block_at t i) ≡ false)
      × (component_in (block_at t i) ≡ cleaned (component_at p i))

  block_read : (i : ℕ) → i < p.count → Reached i → Block i
  unfolding length_of
  block_read i l a =
      let c = component_at p i in
      let g = every_below (component_at p) 0 p.count i k.counts (omega arith) (omega arith) in
      let f : Holds t (8 * start_of t i + 0) (fields_of c) = rw add-zero (holds_left t (8 * start_of t i) (fields_of c) (fields_left p (i + 1)) (fields_split i l a)) in
      read_written (block_at t i) c (holds_drop t (start_of t i) 0 (fields_of c) f) g.0 g.1
      (rw length-drop (omega (arith, a.0, bytes_next p i l, len)))

  reached : (i : ℕ) → i ≤ p.count → Reached i
  unfolding start_of
  reached zero l = (bytes_start p, rw (fields_start p) (holds_left t 16 (block_fields p) (structure_fields p) body_held))
  reached (suc i) l =
      let a = reached i (omega arith) in
      let b = block_read i l a in
      let c = component_at p i in
      let e : 8 * (start_of t i + size_of c.count) ≡ 8 * start_of t i + width_of (fields_of c) = rw (width_fields_of c) (omega arith) in (
        rw (b.0, ← add-one i) (omega (arith, a.0, bytes_next p i l)),
        rw (b.0, e, ← add-one i) (holds_right t (8 * start_of t i) (fields_of c) (fields_left p (i + 1)) (fields_split i l a)),
      )

  block_is : (i : ℕ) → i < p.count → Block i
  block_is i l = block_read i l (reached i (omega arith))

  ends : start_of t p.count ≡ end_of p
  ends = omega (arith, (reached p.count (omega arith)).0, bytes_end p p.count (omega arith))

  codes_are : Holds t (8 * start_of t p.count) (map (bits 4) (codes_of p))
  codes_are = rw ends (holds_left t (8 * end_of p) (map (bits 4) (codes_of p)) (bits 4 0 ∷ []) structure_held)

  last_is : field_at t (8 * start_of t p.count + 4 * entry_count p.count) 4 ≡ 0
  unfolding Holds
  last_is = rw (ends, ← width_of_codes p) (holds_right t (8 * end_of p) (map (bits 4) (codes_of p)) (bits 4 0 ∷ []) structure_held).0

  -- Numbers 4 and 5.
  layout_kept : bad_layout t ≡ false
  unfolding bad_layout length_of
  layout_kept =
      rw (
        ← count_held,
        none_below (λ i. cut_short (block_at t i)) 0 p.count (λ i a b. (block_is i (omega arith)).1),
        eq-eqb (start_of t p.count + p.count) (length t) (omega (arith, ends, len)),
      )

  zeros_kept : bad_zeros t ≡ false
  unfolding bad_zeros
  zeros_kept =
      rw (← count_held, none_below (λ i. bad_zero_bits (block_at t i)) 0 p.count (λ i a b. (block_is i (omega arith)).2), last_is)

  pub plan_is : plan_in t ≡ cleaned_plan p
  unfolding plan_in cleaned_plan
  plan_is =
      rw (
        ← count_held,
        row_ext zero_component most_components (λ i. component_in (block_at t i)) (λ i. cleaned (component_at p i)) p.count (λ i l. (block_is i l).3),
        row_ext 0 most_entries (λ j. field_at t (8 * start_of t p.count + 4 * j) 4) (λ j. get_or p.entries j 0) (entry_count p.count)
            (λ j l. rw zero-add at (codes_held t (λ i. get_or p.entries i 0) (8 * start_of t p.count) 0 (entry_count p.count) j codes_are l)),
      )

  pub reads_back : first_broken (rules p) ≡ 0 → read_of t ≡ record { number = 0; plan = cleaned_plan p }
  unfolding read_of length_of
  reads_back e =
      let q : first_broken (rules (plan_in t)) ≡ 0 = rw plan_is (ap first_broken (rules_cleaned p k.most (every_map (λ c h. h.1) k.counts)) ∙ e) in
      let e₁ : ltb (length t) 2 ≡ false = le-ltb (length t) 2 (omega (arith, len)) in
      let e₁' : eqb (length_in t) (length t) ≡ true = eq-eqb (length_in t) (length t) (length_held ∙ sym len) in
      let e₂ : eqb (edition_in t) 1 ≡ true = eq-eqb (edition_in t) 1 edition_held in
      let e₃ : rule3 (component_count t) ≡ false = rw (← count_held) (not_outside 1 most_components p.count k.least k.most) in
      rw (e₁, e₁', e₂, e₃, layout_kept, zeros_kept, q, plan_is)
