-- A block that is written is read back, and a block that is read is what its component's block is. Assumes nothing.
use mathlib.Core.Path.{◌≡◌, refl, sym, ap}
use mathlib.Core.Bool.{false}
use mathlib.Core.List.{List}
use Prim.Native.Nat.{ℕ, zero, suc, ◌+◌, ◌*◌, ◌^◌, ◌≤◌, ◌<◌}
use native.Mathlib.Decide.{ℕ_discrete}
use native.Mathlib.Omega.{arith}
use lib.Dec.{lit<}
use lib.ListN.{length}
use lib.Pow.{pow_pos}
use Rattle.field.specs.Bits.{field_at}
use Rattle.field.specs.Fields.{width_of, Fitting, Holds}
use Rattle.field.proofs.Fields.{width_append, fitting_append, holds_append, holds_left, holds_right}
use Rattle.theory.specs.Limits.{most_held}
use Rattle.theory.specs.Focal.{focal_at}
use Rattle.theory.specs.declared.Focal.{Focal}
use Rattle.theory.specs.declared.Component.{Component}
use Rattle.block.specs.Block.{count_bits, total_bits, speed_bits, weight_bits, interval_bits, place_of, size_of, padding_of, count_in, total_in}
use Rattle.block.specs.Block.{interval_in, cut_short, bad_zero_bits, component_of, component_in, interval_of, intervals_of, fields_of, cleaned}
use Rattle.block.proofs.Laws.{uncut, is_uncut, zero_bits_are_zero, no_bad_bits, filled_ext, filled_used}

pub width_intervals : (c : Component) (n : ℕ) → width_of (intervals_of c n) ≡ interval_bits * n
unfolding intervals_of width_of
width_intervals c zero = refl
width_intervals c (suc n) = rw (width_append (intervals_of c n) (interval_of c n), width_intervals c n) (omega arith)

-- A block fills its bytes.
pub width_fields_of : (c : Component) → width_of (fields_of c) ≡ 8 * size_of c.count
unfolding fields_of width_of
width_fields_of c = rw (width_append (intervals_of c c.count), width_intervals c c.count) (omega arith)

-- Each interval stands at its place.
module _ (s : List ℕ) (c : Component) where
  at_place : (n i : ℕ) → Holds s (place_of 0) (intervals_of c n) → i < n → Holds s (place_of i) (interval_of c i)
  unfolding intervals_of
  at_place zero i h l = absurd (omega arith)
  at_place (suc n) i h l = elim (ℕ_discrete i n) [
    | yes e ↦
        let w : place_of 0 + width_of (intervals_of c n) ≡ place_of n = rw (width_intervals c n) in
        rw (e, ← w) (holds_right s (place_of 0) (intervals_of c n) (interval_of c n) h)
    | no k ↦ at_place n i (holds_left s (place_of 0) (intervals_of c n) (interval_of c n) h) (omega arith)
  ]

  -- And all stand there if each does.
  all_places : (n : ℕ) → ((i : ℕ) → i < n → Holds s (place_of i) (interval_of c i)) → Holds s (place_of 0) (intervals_of c n)
  unfolding intervals_of Holds
  all_places zero h = tt
  all_places (suc n) h =
      let w : place_of 0 + width_of (intervals_of c n) ≡ place_of n = rw (width_intervals c n) in
      holds_append s (place_of 0) (intervals_of c n) (interval_of c n) (all_places n (λ i p. h i (omega arith))) (rw w (h n (omega arith)))

-- The fields of a block that is held, read.
module _ (s : List ℕ) (c : Component) (h : Holds s 0 (fields_of c)) where
  held : Holds s (place_of 0) (intervals_of c c.count)
  unfolding fields_of Holds
  held = holds_left s (place_of 0) (intervals_of c c.count) _ h.1.1.1

  padding : field_at s (place_of c.count) (padding_of c.count) ≡ 0
  unfolding fields_of Holds
  padding =
      let w : place_of 0 + width_of (intervals_of c c.count) ≡ place_of c.count = rw (width_intervals c c.count) in
      rw w at (holds_right s (place_of 0) (intervals_of c c.count) _ h.1.1.1).0

  component : component_of s c.count c.total ≡ cleaned c
  unfolding component_of cleaned Holds
  component =
      filled_ext (interval_in s) (focal_at c) c.count c.count c.total (λ i p.
      let at = at_place s c c.count i held p in
      rw (at.0, at.1.0, at.1.1.0))

  -- What is written is read back, in the used places.
  pub read_written : 1 ≤ c.count → c.count ≤ most_held → size_of c.count ≤ length s
      → (count_in s ≡ c.count) × (cut_short s ≡ false) × (bad_zero_bits s ≡ false) × (component_in s ≡ cleaned c)
  unfolding fields_of Holds
  read_written lo hi l =
      let k : count_in s ≡ c.count = h.0 in
      let t : total_in s ≡ c.total = h.1.1.0 in
      (k, is_uncut s (record { least = omega arith; most = omega arith; there = rw k l }), no_bad_bits s h.1.0 (rw k padding), rw (k, t) component)

-- What is read is what would be written.
pub written_read : (s : List ℕ) → cut_short s ≡ false → bad_zero_bits s ≡ false → Holds s 0 (fields_of (component_in s))
unfolding fields_of Holds component_of
written_read s e z =
    let k = count_in s in
    let c = component_in s in
    let w : place_of 0 + width_of (intervals_of c k) ≡ place_of k = rw (width_intervals c k) in
    let each : (i : ℕ) → i < k → Holds s (place_of i) (interval_of c i) = λ i p.
    let f = sym (filled_used (interval_in s) k k (total_in s) i p (uncut s e).most) in
    (ap (λ (x : Focal). x.low) f, (ap (λ (x : Focal). x.high) f, (ap (λ (x : Focal). x.weight) f, tt))) in
    (refl, ((zero_bits_are_zero s z).0, (refl, holds_append s (place_of 0) (intervals_of c k) _ (all_places s c k each) (rw w ((zero_bits_are_zero s z).1, tt)))))

-- An interval whose numbers fit their fields, and a block's fields where each of its intervals is one.
abbrev pub FitsFields : Focal → Type 0
FitsFields f = (f.low < 2 ^ speed_bits) × (f.high < 2 ^ speed_bits) × (f.weight < 2 ^ weight_bits)

fitting_intervals : (c : Component) (n : ℕ) → ((i : ℕ) → i < n → FitsFields (focal_at c i)) → Fitting (intervals_of c n)
unfolding intervals_of Fitting
fitting_intervals c zero h = tt
fitting_intervals c (suc n) h =
    let l = h n (omega arith) in
    fitting_append (intervals_of c n) (interval_of c n) (fitting_intervals c n (λ i p. h i (omega arith))) (l.0, (l.1, (l.2, tt)))

pub fitting_fields_of : (c : Component) → c.count < 2 ^ count_bits → c.total < 2 ^ total_bits
    → ((i : ℕ) → i < c.count → FitsFields (focal_at c i)) → Fitting (fields_of c)
unfolding fields_of Fitting
fitting_fields_of c k t h =
    (k, (lit< tt, (t, fitting_append (intervals_of c c.count) _ (fitting_intervals c c.count h) (pow_pos (padding_of c.count), tt))))
