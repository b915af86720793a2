-- `numbers::write_number` meets its contract. Assumes nothing.
use Rattle.std.proofs.Common.{◌≡◌, ◌+◌, ◌-◌, sym, arith}
use Rattle.std.proofs.Math.Nat.{div-one}
use Rattle.numbers.proofs.Numbers.{spelt_none, spelt_more}
use Rattle.numbers.proofs.write_number.Goals as goal

pub loop-i-init : goal.loop-i-init
loop-i-init c =
    let e : c.args.n - c.args.n ≡ 0 = omega arith in
    (rw e (sym (div-one c.args.v)), spelt_none c.args.s.now c.args.at c.args.n c.args.v)

pub loop-i-preserved : goal.loop-i-preserved
loop-i-preserved c =
    spelt_more _ _ _ _ _ _ _ c.loop-i-test.true c.loop-i.auto.i c.requires c.loop-i.invariant.0 c.loop-i.invariant.1

pub returns : goal.returns
returns c =
    let e : c.loop-i.i ≡ 0 = omega arith in
    let f : c.args.at + 0 ≡ c.args.at = omega arith in
    let g : c.args.n - 0 ≡ c.args.n = omega arith in
    rw (e, f, g) at c.loop-i.invariant.1
