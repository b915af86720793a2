-- `numbers::write_numbers` meets its contract: a number is put in where those already written end. Assumes nothing.
use Rattle.std.proofs.Common.{◌≡◌, ◌+◌, ◌*◌, ◌<◌, ◌≤◌, refl, arith, length, get_or}
use native.Mathlib.Nat.{mul-le-mul_left}
use Rattle.numbers.specs.Numbers.{big_endian}
use Rattle.numbers.proofs.Numbers.{placed_next}
use Rattle.theory.proofs.Sums.{for_each_next}
use Rattle.numbers.proofs.write_numbers.Goals as goal

pub loop-i-preserved : goal.loop-i-preserved
loop-i-preserved c =
    let a = c.args in
    let i = c.loop-i.i in
    let vs = a.vs.now in
    let h : i < length vs = omega arith in
    let m : a.n * (i + 1) ≤ a.n * length vs = mul-le-mul_left a.n (omega arith) in
    let k = a.at + a.n * i in
    let e : a.at + a.n * (i + 1) ≡ k + a.n = omega arith in
    let p = placed_next k (k + a.n) (big_endian a.n (get_or vs i 0)) c.loop-i.invariant refl (omega arith) (omega arith) (omega arith) c.write_number.ensures in
    rw (e, for_each_next (big_endian a.n) vs i 0) p
