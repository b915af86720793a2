-- `wire::numbers_in` meets its contract. Assumes nothing.
use Prim.Native.Nat.{◌+◌}
use Rattle.std.proofs.Common.{rules}
use Rattle.wire.specs.Wire.{number_in}
use Rattle.wire.proofs.Decoding.{made}
use Rattle.wire.proofs.numbers_in.Goals as goal

pub returns : goal.returns
returns g c = made _ _ (λ j. number_in c.args.s.now (c.args.i + j)) (λ j r q k. search rules) c.from_fn.ensures.items
