-- Where the parts of a plan's sheet stand: what is left at each block, and what stands behind each block and each code. Assumes nothing.
use mathlib.Core.Path.{◌≡◌, refl, ap, ◌∙◌}
use mathlib.Core.List.{List, [], ◌∷◌, ◌++◌, map}
use Prim.Native.Nat.{ℕ, zero, suc, ◌+◌, ◌*◌, ◌≤◌, ◌<◌}
use native.Mathlib.Omega.{arith}
use lib.ListN.{length, get_or, take}
use lib.Seq.{take_all, length-take-le}
use Rattle.std.proofs.lemmas.List.{map_more}
use Rattle.theory.specs.Sums.{sum_by, for_each, count_from, none, more}
use Rattle.theory.specs.Lists.{no_component}
use Rattle.theory.specs.declared.Component.{Component}
use Rattle.field.specs.Bits.{put_at}
use Rattle.field.specs.Fields.{bits, width_of, put_all}
use Rattle.field.specs.declared.Field.{Field}
use Rattle.numbers.proofs.Numbers.{part_rest}
use Rattle.field.proofs.Fields.{width_append, put_all_append}
use Rattle.field.proofs.Part.{part_back}
use Rattle.block.specs.Block.{size_of, fields_of}
use Rattle.block.proofs.RoundTrip.{width_fields_of}
use Rattle.plan.specs.declared.Plan.{Plan}
use Rattle.theory.specs.Limits.{most_held, most_components, entry_count}
use Rattle.plan.specs.Sheet.{head_bytes, entry_bits}
use Rattle.plan.specs.Plan.{component_at, components_of, codes_of}
use Rattle.plan.specs.Rules.{AllHeld, Sized}
use Rattle.writing.specs.Writing.{end_of, length_of, head_fields, block_fields, structure_fields, sheet_fields}
use Rattle.plan.proofs.Loops.{from, from_zero, from_next, from_end}
use Rattle.theory.proofs.Every.{index_of_every}
use Rattle.theory.proofs.Sums.{sum_next, sum_take, length_below, for_each_next}

-- The bytes and the fields of the blocks from i on.
module _ (p : Plan) where
  abbrev pub bytes_left : ℕ → ℕ
  bytes_left i = sum_by (λ c. size_of c.count) (map (component_at p) (from i p.count))

  abbrev pub fields_left : ℕ → List Field
  fields_left i = for_each (map (component_at p) (from i p.count)) fields_of

  pub bytes_start : 2 + bytes_left 0 ≡ end_of p
  bytes_start = rw (from_zero p.count)

  pub bytes_next : (i : ℕ) → i < p.count → bytes_left i ≡ size_of (component_at p i).count + bytes_left (i + 1)
  bytes_next i h = rw (from_next i p.count h)

  pub bytes_end : (i : ℕ) → p.count ≤ i → bytes_left i ≡ 0
  bytes_end i h = rw (from_end i p.count h)

  pub fields_start : fields_left 0 ≡ block_fields p
  fields_start = rw (from_zero p.count)

  pub all_held : Sized p → AllHeld (components_of p)
  all_held z = go 0 p.count (λ i h. z.held i (omega arith))
    where
      go : (k n : ℕ) → ((i : ℕ) → i < k + n → (component_at p i).count ≤ most_held) → AllHeld (map (component_at p) (count_from k n))
      go k zero h = none
      go k (suc n) h = more (h k (omega arith)) (go (suc k) n (λ i l. h i (omega arith)))

  -- A block has 36 bytes at most, and so the blocks of a sheet end by byte 218.
  pub end_most : Sized p → end_of p ≤ 218
  end_most z = omega (arith, sums_most (all_held z), length_below (component_at p) p.count, z.counted.most)
    where
      size_most : (k : ℕ) → k ≤ 8 → size_of k ≤ 36
      size_most k h = omega arith

      sums_most : {cs : List Component} → AllHeld cs → sum_by (λ c. size_of c.count) cs ≤ 36 * length cs
      sums_most none = omega arith
      sums_most (more {x} h hs) = omega (arith, size_most x.count h, sums_most hs)

  -- What is known of the sizes of a plan's sheet.
  pub record Sizes : Type 0 where
    pub least : 1 ≤ p.count
    pub most : p.count ≤ most_components
    pub sum : length_of p ≡ end_of p + p.count
    pub end : end_of p ≤ 218

  pub sizes : Sized p → Sizes
  unfolding length_of
  sizes z = record { least = z.counted.least; most = z.counted.most; sum = refl; end = end_most z }

-- How many bits the parts take.
pub width_blocks : (cs : List Component) → width_of (for_each cs fields_of) ≡ 8 * sum_by (λ c. size_of c.count) cs
unfolding width_of
width_blocks [] = refl
width_blocks (c ∷ cs) = rw (width_append (fields_of c), width_fields_of c, width_blocks cs) (omega arith)

pub width_codes : (l : List ℕ) → width_of (map (bits 4) l) ≡ 4 * length l
unfolding width_of
width_codes [] = refl
width_codes (x ∷ l) = rw (width_codes l) (omega arith)

-- How many codes there are.
pub codes_count : (p : Plan) {codes : List ℕ} → codes ≡ codes_of p → length codes ≡ entry_count p.count
codes_count p e = ap length e ∙ length_below (λ j. get_or p.entries j 0) (entry_count p.count)

pub width_of_codes : (p : Plan) → width_of (map (bits 4) (codes_of p)) ≡ 4 * entry_count p.count
width_of_codes p = rw (width_codes (codes_of p), codes_count p refl)

-- The byte behind the first i blocks.
abbrev pub end_after : List Component → ℕ → ℕ
end_after cs i = head_bytes + sum_by (λ c. size_of c.count) (take i cs)

-- One block more.
pub end_next : (cs : List Component) (i : ℕ) → i < length cs → end_after cs (i + 1) ≡ end_after cs i + size_of (get_or cs i no_component).count
end_next cs i h = rw (sum_next (λ (c : Component). size_of c.count) cs i no_component h) (omega arith)

-- The same in a buffer s that holds the first i blocks.
pub blocks_next : (cs : List Component) (s t u : List ℕ) (a i : ℕ) → i < length cs → a ≡ end_after cs i
    → t ≡ put_all s (8 * head_bytes) (for_each (take i cs) fields_of) → u ≡ put_all t (8 * a) (fields_of (get_or cs i no_component))
    → u ≡ put_all s (8 * head_bytes) (for_each (take (i + 1) cs) fields_of)
blocks_next cs s t u a i h ea et eu =
    let fs : List Field = for_each (take i cs) fields_of in
    let d : 8 * head_bytes + width_of fs ≡ 8 * a = rw (width_blocks (take i cs)) (omega arith) in
    rw (for_each_next fields_of cs i no_component h, put_all_append s (8 * head_bytes) fs (fields_of (get_or cs i no_component)), ← et, d) eu

-- The components of a plan that has a size.
module _ (p : Plan) {cs : List Component} (e : cs ≡ components_of p) where
  pub held_at : Sized p → (i : ℕ) → i < length cs → (get_or cs i no_component).count ≤ most_held
  held_at z = let h : AllHeld cs = rw e (all_held p z) in index_of_every no_component h

  -- Block i ends by the end of all blocks.
  pub block_within : (i : ℕ) → i < length cs → end_after cs i + size_of (get_or cs i no_component).count ≤ end_of p
  block_within i h = rw (← e) (omega (arith, end_next cs i h, sum_take (λ (c : Component). size_of c.count) (i + 1) cs))

  pub block_low : Sized p → (i : ℕ) → i < length cs → end_after cs i + size_of (get_or cs i no_component).count ≤ 218
  block_low z i h = omega (arith, block_within i h, end_most p z)

  pub end_all : (i : ℕ) → length cs ≤ i → end_after cs i ≡ end_of p
  end_all i h = rw (take_all i cs h, e)

  pub blocks_all : (i : ℕ) → length cs ≤ i → for_each (take i cs) fields_of ≡ block_fields p
  blocks_all i h = rw (take_all i cs h, e)

-- What a loop over the blocks goes by.
pub ruleset block_steps = (held_at, end_next, block_within, block_low, end_all, blocks_next, blocks_all, part_back, part_rest)

-- One code more in a buffer s that holds the first i from bit a on.
pub codes_next : (codes s t u : List ℕ) (a b i : ℕ) → i < length codes → b ≡ a + entry_bits * i → t ≡ put_all s a (map (bits entry_bits) (take i codes))
    → u ≡ put_at t b entry_bits (get_or codes i 0) → u ≡ put_all s a (map (bits entry_bits) (take (i + 1) codes))
unfolding put_all
codes_next codes s t u a b i h eb et eu =
    let fs : List Field = map (bits entry_bits) (take i codes) in
    let d : b ≡ a + width_of fs = rw (width_codes (take i codes)) (omega (arith, length-take-le i codes (omega arith))) in
    rw (map_more (bits entry_bits) codes i 0 h, put_all_append s a fs (bits entry_bits (get_or codes i 0) ∷ []), ← et, ← d) eu

-- The parts of a sheet, put in one after the other.
pub parts_put : (p : Plan) (s x y z w : List ℕ) (a : ℕ) → a ≡ 8 * end_of p → x ≡ put_all s 0 (head_fields p.count (length_of p)) → y ≡ put_all x 16 (block_fields p) → z ≡ put_all y a (map (bits 4) (codes_of p))
    → w ≡ put_at z (a + 4 * entry_count p.count) 4 0 → w ≡ put_all s 0 (sheet_fields p)
unfolding put_all sheet_fields width_of
parts_put p s x y z w a ea ex ey ez ew =
    let v : 16 + width_of (block_fields p) ≡ a = rw (width_blocks (components_of p), ea) (omega arith) in
    rw (
      put_all_append s 0 (head_fields p.count (length_of p)) (block_fields p ++ structure_fields p),
      ← ex,
      put_all_append x 16 (block_fields p) (structure_fields p),
      ← ey,
      v,
      put_all_append y a (map (bits 4) (codes_of p)) (bits 4 0 ∷ []),
      ← ez,
      width_of_codes p,
    )
    ew

-- What the parts of a sheet go by.
pub ruleset sheet_parts = (sizes, codes_count, parts_put)
