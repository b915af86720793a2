-- `wire::put_demands` meets its contract. Assumes nothing.
use Prim.Native.Nat.{◌*◌}
use native.Mathlib.Omega.{arith}
use Rattle.numbers.proofs.Numbers.{number_lt}
use Rattle.wire.specs.Demands.{demand_bytes}
use Rattle.wire.proofs.put_demands.Goals as goal

-- Four bytes hold a number below 2 ^ 32.
pub overflow_cast-demand : goal.overflow_cast-demand
overflow_cast-demand c = omega (arith, number_lt c.args.s.now (demand_bytes * c.loop-i.i) demand_bytes (λ k. (c.type_inv.s k).fits))
