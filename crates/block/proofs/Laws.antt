-- Laws of a block that is read: what its two tests say, its two cases, its component's places, and that its fields fit. Assumes nothing.
use mathlib.Core.Path.{◌≡◌, refl, ap, ◌∙◌}
use mathlib.Core.Bool.{Bool, true, false, ◌||◌, true≢false}
use mathlib.Core.List.{List}
use Prim.Native.Nat.{ℕ, ◌+◌, ◌^◌, ◌≤◌, ◌<◌}
use native.Mathlib.Omega.{arith}
use borrow.Author.Tests.{le-ltb, ltb-false}
use lib.Dec.{ltb}
use lib.ListN.{length}
use Rattle.field.specs.Bits.{field_at}
use Rattle.field.proofs.FieldLaws.{field_below}
use Rattle.theory.specs.Limits.{most_held}
use Rattle.theory.specs.Focal.{focal_at}
use Rattle.theory.specs.declared.Focal.{Focal}
use Rattle.block.specs.Block.{count_bits, zero_bits, place_of, size_of, padding_of, count_in, cut_short, bad_zero_bits, filled_with, zero_component, component_in, block_in}
use Rattle.block.specs.declared.Block.{Block}
use Rattle.std.specs.Array.{AllOfLen}
use Rattle.std.specs.Prelude.{Some, None, replicate}
use Rattle.theory.proofs.Every.{all_alike}
use Rattle.theory.specs.declared.Component.{Component}
use Rattle.block.proofs.Rows.{row_ext, row_used}

-- Three fields in a row, of at most 16 bits each, fit 16 bits.
pub narrow : (s : List ℕ) (p a b c : ℕ) → a ≤ 16 → b ≤ 16 → c ≤ 16
    → (field_at s p a < 2 ^ 16) × (field_at s (p + a) b < 2 ^ 16) × (field_at s (p + a + b) c < 2 ^ 16)
narrow s p a b c i j k = (field_below s p a 16 i, field_below s (p + a) b 16 j, field_below s (p + a + b) c 16 k)

pub neither : (a b : Bool) → (a || b) ≡ false → (a ≡ false) × (b ≡ false)
neither true b e = absurd (true≢false e)
neither false b e = (refl, e)

-- A block that is not cut short: k is 1 to 8, and its bytes are there.
pub record Uncut (s : List ℕ) : Type 0 where
  pub least : 1 ≤ count_in s
  pub most : count_in s ≤ most_held
  pub there : size_of (count_in s) ≤ length s

pub uncut : (s : List ℕ) → cut_short s ≡ false → Uncut s
unfolding cut_short
uncut s e =
    let a = neither (ltb (count_in s) 1 || ltb most_held (count_in s)) (ltb (length s) (size_of (count_in s))) e in
    let b = neither (ltb (count_in s) 1) (ltb most_held (count_in s)) a.0 in
    record { least = ltb-false (count_in s) 1 b.0; most = ltb-false most_held (count_in s) b.1; there = ltb-false (length s) (size_of (count_in s)) a.1 }

pub is_uncut : (s : List ℕ) → Uncut s → cut_short s ≡ false
unfolding cut_short
is_uncut s u = simp (le-ltb (count_in s) 1 u.least, le-ltb most_held (count_in s) u.most, le-ltb (length s) (size_of (count_in s)) u.there)

pub is_cut : (s : List ℕ) → (Uncut s → ⊥) → cut_short s ≡ true
is_cut s h = go (cut_short s) refl
  where
    go : (b : Bool) → cut_short s ≡ b → cut_short s ≡ true
    go true e = e
    go false e = absurd (h (uncut s e))

-- Where no bit named zero is one, the two bits behind k and the padding are zero.
pub zero_bits_are_zero : (s : List ℕ) → bad_zero_bits s ≡ false → (field_at s count_bits zero_bits ≡ 0) × (field_at s (place_of (count_in s)) (padding_of (count_in s)) ≡ 0)
unfolding bad_zero_bits
zero_bits_are_zero s e =
    let a = neither (ltb 0 (field_at s count_bits zero_bits)) (ltb 0 (field_at s (place_of (count_in s)) (padding_of (count_in s)))) e in
    (omega (arith, ltb-false), omega (arith, ltb-false))

pub no_bad_bits : (s : List ℕ) → field_at s count_bits zero_bits ≡ 0 → field_at s (place_of (count_in s)) (padding_of (count_in s)) ≡ 0 → bad_zero_bits s ≡ false
unfolding bad_zero_bits
no_bad_bits s a b = simp (a, b)

-- The two cases of a block that is read.
pub block_uncut : (s : List ℕ) → cut_short s ≡ false
    → block_in s ≡ Some (record { nonzero = bad_zero_bits s; size = size_of (count_in s); component = component_in s })
unfolding block_in
block_uncut s e = rw e

pub block_cut : (s : List ℕ) → cut_short s ≡ true → block_in s ≡ None
unfolding block_in
block_cut s e = rw e

-- A block that is read is not cut short, and is what stands there.
pub block_read : (s : List ℕ) (b : Block) → Some b ≡ block_in s
    → (cut_short s ≡ false) × (b ≡ record { nonzero = bad_zero_bits s; size = size_of (count_in s); component = component_in s })
block_read s b e = go (cut_short s) refl
  where
    go : (c : Bool) → cut_short s ≡ c → (cut_short s ≡ false) × (b ≡ record { nonzero = bad_zero_bits s; size = size_of (count_in s); component = component_in s })
    go true h = let q : Some b ≡ None = e ∙ block_cut s h in absurd (cc q)
    go false h = let q : Some b ≡ Some (record { nonzero = bad_zero_bits s; size = size_of (count_in s); component = component_in s }) = e ∙ block_uncut s h in (h, cc)

-- A component by default is that of zeros.
zeros_are : {xs : List ℕ} → AllOfLen (λ x. x ≡ 0) xs most_held → xs ≡ replicate most_held 0
zeros_are a = all_alike 0 (λ x e. e) most_held a

abbrev pub ByDefault : Component → Type 0
ByDefault c =
    AllOfLen (λ x. x ≡ 0) c.lows most_held
    × (AllOfLen (λ x. x ≡ 0) c.highs most_held × (AllOfLen (λ x. x ≡ 0) c.weights most_held × ((c.count ≡ 0) × (c.total ≡ 0))))

pub default_is_zero : (c : Component) → ByDefault c → c ≡ zero_component
default_is_zero c d =
    let e : ◌≡◌ {A = Component} (record { lows = c.lows; highs = c.highs; weights = c.weights; count = c.count; total = c.total }) zero_component =
    rw (zeros_are d.0, zeros_are d.1.0, zeros_are d.1.1.0, d.1.1.1.0, d.1.1.1.1) in
    e

-- A component that is filled: it depends on the used places alone, and each holds its interval.
pub filled_ext : (f g : ℕ → Focal) (k n t : ℕ) → ((i : ℕ) → i < k → f i ≡ g i) → filled_with f k n t ≡ filled_with g k n t
filled_ext f g k n t h =
    rw (
      row_ext 0 most_held (λ i. (f i).low) (λ i. (g i).low) k (λ i p. ap (λ (x : Focal). x.low) (h i p)),
      row_ext 0 most_held (λ i. (f i).high) (λ i. (g i).high) k (λ i p. ap (λ (x : Focal). x.high) (h i p)),
      row_ext 0 most_held (λ i. (f i).weight) (λ i. (g i).weight) k (λ i p. ap (λ (x : Focal). x.weight) (h i p)),
    )

pub filled_used : (f : ℕ → Focal) (k n t i : ℕ) → i < k → k ≤ most_held → focal_at (filled_with f k n t) i ≡ f i
filled_used f k n t i h l =
    rw (
      row_used 0 most_held 0 (λ j. (f j).low) k i h l,
      row_used 0 most_held 0 (λ j. (f j).high) k i h l,
      row_used 0 most_held 0 (λ j. (f j).weight) k i h l,
    )
