-- `numbers::write_number` meets its contract. The invariant: the bytes from the i-th on are written. Assumes nothing.
use Rattle.std.proofs.Common.{◌≡◌, ◌-◌, ◌/◌, ◌^◌}
use Rattle.numbers.proofs.Numbers.{spelt}
use Rattle.numbers.proofs.write_number.Given as goal

abbrev pub invariant-loop-i : goal.invariant-loop-i
invariant-loop-i l = (l.x ≡ l.v / 256 ^ (l.n - l.i)) × (l.s ≡ spelt l.initial.s l.at l.n l.v l.i)
