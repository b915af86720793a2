-- `wire::encode_plan` meets its contract: n, each component and the entries go one behind the other. Assumes nothing.
use mathlib.Core.Path.{◌≡◌, refl}
use Prim.Native.Nat.{◌+◌, ◌*◌, ◌<◌}
use native.Mathlib.Omega.{arith}
use lib.ListN.{length, get_or}
use lib.Seq.{take-length}
use Rattle.theory.specs.Sums.{for_each}
use Rattle.theory.specs.Lists.{no_component}
use Rattle.numbers.specs.Numbers.{big_endian}
use Rattle.numbers.proofs.Numbers.{placed_none, placed_next}
use Rattle.wire.specs.Wire.{encode_numbers, component_numbers_of}
use Rattle.wire.proofs.Encoding.{numbers_placed, encoded_next, plan_parts}
use Rattle.wire.proofs.encode_plan.Goals as goal

pub loop-i-preserved : goal.loop-i-preserved
loop-i-preserved c =
    let cs = c.args.p.components in
    let i = c.loop-i.i in
    let h : i < length cs = omega arith in
    let k = 1 + 26 * i in
    let e : 2 * (1 + 26 * (i + 1)) ≡ 2 * (k + 26) = omega arith in
    let same : length c.encode_component.new.out ≡ length c.loop-i.out = omega arith in
    let b = encode_numbers (component_numbers_of (get_or cs i no_component)) in
    rw (e, encoded_next cs i) (placed_next (2 * k) (2 * (k + 26)) b c.loop-i.invariant refl (omega arith) (omega arith) same c.encode_component.ensures)

pub returns : goal.returns
returns c =
    let p = c.args.p in
    let six : length p.components ≡ 6 = omega arith in
    let e : c.loop-i.i ≡ length p.components = omega arith in
    let p0 = placed_none c.args.out.now 0 (omega arith) in
    let p1 = placed_next 0 2 (big_endian 2 p.count) p0 refl (omega arith) (omega arith) (omega arith) c.write_number.ensures in
    let p2 = placed_next 2 314 (encode_numbers (for_each p.components component_numbers_of)) p1 refl (omega arith) (omega arith) (omega arith)
    (rw (e, take-length, six) at c.loop-i.invariant.is) in
    let p3 = numbers_placed 157 11 p.entries p2 refl (omega arith) (omega arith) c.encode_numbers.ensures in
    rw (plan_parts p) at p3.is
