-- The blocks of a sheet, read in turn. Assumes nothing.
use mathlib.Core.Path.{◌≡◌, refl, sym, ◌∙◌}
use mathlib.Core.Bool.{Bool, true, false, ◌||◌}
use mathlib.Core.List.{List}
use Prim.Native.Nat.{ℕ, zero, suc, ◌+◌, ◌≤◌, ◌<◌}
use native.Mathlib.Nat.{zero-add}
use native.Mathlib.Numerals.{add-one}
use native.Mathlib.Omega.{arith}
use lib.ListN.{length, set, length-drop}
use Rattle.std.specs.Prelude.{Some, None}
use Rattle.theory.specs.Limits.{most_held}
use Rattle.block.specs.Rows.{row}
use Rattle.block.specs.Block.{size_of, count_in, cut_short, bad_zero_bits, component_of, component_in, block_in}
use Rattle.block.proofs.Laws.{neither, uncut, block_uncut, block_read}
use Rattle.block.specs.declared.Block.{Block}
use Rattle.plan.specs.declared.Flaws.{Flaws}
use Rattle.plan.specs.Rules.{flaws_of, either_flaws}
use Rattle.plan.proofs.Tests.{any_at, any_more, any_next}
use Rattle.plan.proofs.Components.{flaws_next}
use Rattle.reading.specs.declared.Blocks.{Blocks}
use Rattle.reading.specs.Reading.{start_of, block_at, any_cut, uncut_blocks, blocks_in}

module _ (s : List ℕ) where
  pub blocks_none : (n : ℕ) → any_cut s n ≡ true → blocks_in s n ≡ None
  unfolding blocks_in
  blocks_none n e = rw e

  pub blocks_cut : (n i : ℕ) → i < n → cut_short (block_at s i) ≡ true → blocks_in s n ≡ None
  blocks_cut n i h e = blocks_none n (any_at (λ j. cut_short (block_at s j)) 0 n i (omega arith) (omega arith) e)

  pub blocks_uncut : (n : ℕ) → any_cut s n ≡ false → blocks_in s n ≡ Some (uncut_blocks s n)
  unfolding blocks_in
  blocks_uncut n e = rw e

  pub uncut_next : (i : ℕ) → any_cut s i ≡ false → cut_short (block_at s i) ≡ false → any_cut s (i + 1) ≡ false
  uncut_next i e w = sym (any_next (λ j. cut_short (block_at s j)) i) ∙ rw (e, w)

  -- Blocks that are read are not cut short, and are what stands there.
  pub blocks_read : (n : ℕ) {b : Blocks} → Some b ≡ blocks_in s n → (any_cut s n ≡ false) × (b ≡ uncut_blocks s n)
  blocks_read n {b} q = go (any_cut s n) refl
    where
      go : (c : Bool) → any_cut s n ≡ c → (any_cut s n ≡ false) × (b ≡ uncut_blocks s n)
      go true e = let r = q ∙ blocks_none n e in absurd (cc r)
      go false e = let r = q ∙ blocks_uncut n e in (e, cc r)

  -- They lie within the sheet.
  pub blocks_end : (n : ℕ) {b : Blocks} → 1 ≤ n → Some b ≡ blocks_in s n → b.end ≤ length s
  unfolding start_of
  blocks_end zero h q = absurd (omega arith)
  blocks_end (suc n) h q =
      let (e, w) = blocks_read (suc n) q in
      let f = (neither (any_cut s n) (cut_short (block_at s (0 + n))) (sym (any_more (λ j. cut_short (block_at s j)) 0 n) ∙ e)).1 in
      rw w (omega (arith, (uncut (block_at s n) (rw zero-add at f)).there, length-drop (start_of s n) s))

  -- Where the block reader answers none, block i is cut short.
  pub is_cut_short : (i : ℕ) → None ≡ block_in (block_at s i) → cut_short (block_at s i) ≡ true
  is_cut_short i q = go (cut_short (block_at s i)) refl
    where
      go : (c : Bool) → cut_short (block_at s i) ≡ c → cut_short (block_at s i) ≡ true
      go true h = h
      go false h = let e = q ∙ block_uncut (block_at s i) h in absurd (cc e)

  -- What the block reader answers about block i, where it is not cut short.
  module _ (i : ℕ) (b : Block) (q : Some b ≡ block_in (block_at s i)) where
    pub cut_is : cut_short (block_at s i) ≡ false
    cut_is = (block_read (block_at s i) b q).0

    pub block_is : b ≡ record { nonzero = bad_zero_bits (block_at s i); size = size_of (count_in (block_at s i)); component = component_in (block_at s i) }
    block_is = (block_read (block_at s i) b q).1

    pub block_fits : start_of s i ≤ length s → start_of s i + b.size ≤ length s
    block_fits h = rw block_is (omega (arith, (uncut (block_at s i) cut_is).there, length-drop (start_of s i) s))

    -- A block that was read has up to eight intervals.
    pub count_fits : b.component.count ≤ most_held
    unfolding component_of
    count_fits = rw block_is (uncut (block_at s i) cut_is).most

    -- One block more.
    pub next_block : (r : Blocks) (z : Bool) (f : Flaws) → r ≡ uncut_blocks s i → z ≡ (r.nonzero || b.nonzero)
        → f ≡ either_flaws r.flaws (flaws_of b.component)
        → ◌≡◌ {A = Blocks} (record { components = set r.components i b.component; nonzero = z; flaws = f; end = r.end + b.size })
        (uncut_blocks s (i + 1))
    unfolding start_of row
    next_block r z f p e d =
        rw (
          e,
          d,
          p,
          block_is,
          any_next (λ j. bad_zero_bits (block_at s j)) i,
          flaws_next (λ j. component_in (block_at s j)) i,
          add-one,
        )
