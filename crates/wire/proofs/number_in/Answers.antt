-- `wire::number_in` meets its contract. Assumes nothing.
use Prim.Native.Nat.{◌*◌}
use native.Mathlib.Omega.{arith}
use Rattle.numbers.proofs.Numbers.{number_lt}
use Rattle.wire.specs.Wire.{number_bytes}
use Rattle.wire.proofs.number_in.Goals as goal

-- Two bytes hold a number below 2 ^ 16.
pub overflow_cast-result : goal.overflow_cast-result
overflow_cast-result c = omega (arith, number_lt c.args.s.now (number_bytes * c.args.i) number_bytes (λ k. (c.type_inv.s k).fits))
