-- `wire::encode_component` meets its contract: k, T and the three rows go one behind the other. Assumes nothing.
use mathlib.Core.Path.{◌≡◌, refl}
use mathlib.Core.List.{[], ◌∷◌}
use Prim.Native.Nat.{◌+◌, ◌*◌}
use native.Mathlib.Omega.{arith}
use Rattle.numbers.specs.Numbers.{big_endian}
use Rattle.numbers.proofs.Numbers.{placed_none, placed_next}
use Rattle.wire.proofs.Encoding.{numbers_placed, component_parts}
use Rattle.wire.proofs.encode_component.Goals as goal

pub returns : goal.returns
returns c =
    let i = c.args.i in
    let d = c.args.c.now in
    let p0 = placed_none c.args.out.now (2 * i) (omega arith) in
    let p1 = placed_next (2 * i) (2 * i + 2) (big_endian 2 d.count) p0 refl (omega arith) (omega arith) (omega arith) c.write_number.ensures in
    let p2 = numbers_placed (i + 1) 1 (d.total ∷ []) p1 (omega arith) (omega arith) (omega arith) c.encode_numbers.ensures in
    let p3 = numbers_placed (i + 2) 8 d.lows p2 (omega arith) (omega arith) (omega arith) c.encode_numbers-2.ensures in
    let p4 = numbers_placed (i + 2 + 8) 8 d.highs p3 (omega arith) (omega arith) (omega arith) c.encode_numbers-3.ensures in
    let p5 = numbers_placed (i + 2 + 16) 8 d.weights p4 (omega arith) (omega arith) (omega arith) c.encode_numbers-4.ensures in
    let e : 2 * (i + 2 + 16 + 8) ≡ 2 * (i + 26) = omega arith in
    rw (e, component_parts d) at p5.is
