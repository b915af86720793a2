-- `field::put_field` meets its contract. The invariant: the lowest bits are put, from bit i of the field on, and x holds the others. Assumes nothing.
use Rattle.std.proofs.Common.{◌≡◌, ◌+◌, ◌-◌, ◌/◌, ◌^◌}
use Rattle.field.specs.Bits.{put_at}
use Rattle.field.proofs.put_field.Given as goal

abbrev pub invariant-loop-i : goal.invariant-loop-i
invariant-loop-i l = (l.x ≡ l.fn.field.value / 2 ^ (l.fn.field.width - l.i)) × (l.dst ≡ put_at l.initial.dst (l.at + l.i) (l.fn.field.width - l.i) l.fn.field.value)
