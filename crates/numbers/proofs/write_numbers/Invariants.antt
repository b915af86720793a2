-- `numbers::write_numbers` meets its contract: each number goes behind those already written. Assumes nothing.
use Rattle.std.proofs.Common.{◌+◌, ◌*◌, take}
use Rattle.theory.specs.Sums.{for_each}
use Rattle.numbers.specs.Numbers.{big_endian}
use Rattle.numbers.proofs.Numbers.{Placed}
use Rattle.numbers.proofs.write_numbers.Given as goal

abbrev pub invariant-loop-i : goal.invariant-loop-i
invariant-loop-i l = Placed l.initial.s l.at (l.at + l.n * l.i) (for_each (take l.i l.vs) (big_endian l.n)) l.s
