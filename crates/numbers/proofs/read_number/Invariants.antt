-- `numbers::read_number` meets its contract. The invariant: the bytes passed spell the number so far. Assumes nothing.
use Rattle.std.proofs.Common.{◌≡◌}
use Rattle.numbers.specs.Numbers.{number_at}
use Rattle.numbers.proofs.read_number.Given as goal

abbrev pub invariant-loop-x : goal.invariant-loop-x
invariant-loop-x l = l.acc ≡ number_at l.s l.at l.x-index
