-- `block::read_interval` meets its contract: each field is a part of the interval's window. Assumes nothing.
use Rattle.std.proofs.Common.{◌≡◌, ◌∙◌, List, ℕ, ◌+◌, ◌/◌, ◌%◌, ◌^◌, arith}
use Rattle.field.specs.Bits.{window_at}
use Rattle.field.proofs.FieldLaws.{window_field, window_last}
use Rattle.theory.specs.declared.Focal.{Focal}
use Rattle.block.specs.Block.{speed_bits, weight_bits, interval_bits, interval_at}
use Rattle.block.proofs.read_interval.Goals as goal

-- The fields of an interval's window, by their sizes.
parts : (s : List ℕ) (p : ℕ) (w x y z : ℕ) → w ≡ window_at s p interval_bits → x ≡ 2 ^ speed_bits → y ≡ 2 ^ weight_bits → z ≡ 2 ^ (speed_bits + weight_bits)
    → ◌≡◌ {A = Focal} (record { low = w / z % x; high = w / y % x; weight = w % y }) (interval_at s p)
parts s p w x y z e ex ey ez =
    let zero : p + 0 ≡ p = omega arith in
    let third : p + (speed_bits + speed_bits) ≡ p + speed_bits + speed_bits = omega arith in
    rw (
      e,
      ex,
      ey,
      ez,
      rw zero at (window_field s p 0 speed_bits (speed_bits + weight_bits)),
      window_field s p speed_bits speed_bits weight_bits,
      rw third at (window_last s p (speed_bits + speed_bits) weight_bits),
    )

pub returns : goal.returns
returns c = parts _ _ _ _ _ _ (c.window-bits.ensures ∙ rw (c.new.ensures.0, c.new.ensures.1)) c.pow2-speed_size.ensures c.pow2-weight_size.ensures c.pow2-high_weight_size.ensures
