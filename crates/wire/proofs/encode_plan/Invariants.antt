-- `wire::encode_plan` meets its contract: n, each component and the entries go one behind the other. Assumes nothing.
use Prim.Native.Nat.{◌*◌}
use lib.ListN.{take}
use Rattle.theory.specs.Sums.{for_each}
use Rattle.numbers.proofs.Numbers.{Placed}
use Rattle.wire.specs.Wire.{number_bytes, component_start, encode_numbers, component_numbers_of}
use Rattle.wire.proofs.encode_plan.Given as goal

abbrev pub invariant-loop-i : goal.invariant-loop-i
invariant-loop-i l =
    Placed l.initial.out number_bytes (number_bytes * component_start l.i) (encode_numbers (for_each (take l.i l.c-items) component_numbers_of)) l.out
