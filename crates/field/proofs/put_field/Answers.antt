-- `field::put_field` meets its contract. Assumes nothing.
use Rattle.std.proofs.Common.{◌≡◌, ◌∙◌, ◌+◌, ◌-◌, sym, arith}
use Rattle.std.proofs.Math.Nat.{div-one}
use Rattle.field.specs.Bits.{put_at}
use Rattle.field.proofs.Put.{put_at_more}
use Rattle.field.proofs.put_field.Goals as goal

pub loop-i-init : goal.loop-i-init
unfolding put_at
loop-i-init c =
    let z : c.args.field.width - c.args.field.width ≡ 0 = omega arith in
    (rw (z, c.from-x.ensures) (sym (div-one c.args.field.value)), rw z)

pub loop-i-preserved : goal.loop-i-preserved
loop-i-preserved c =
    let inv = c.loop-i.invariant in
    let next = put_at_more _ _ _ _ _ _ _ c.loop-i-test.true c.loop-i.auto.i c.requires.within inv.0 inv.1 in
    rw c.pow2-two.ensures (next.0, rw c.pow2-two.ensures at c.put_bit.ensures ∙ next.1)

pub returns : goal.returns
returns c =
    let z : c.loop-i.i ≡ 0 = omega arith in
    let e : c.args.at + 0 ≡ c.args.at = omega arith in
    let f : c.args.field.width - 0 ≡ c.args.field.width = omega arith in
    rw (z, e, f) at c.loop-i.invariant.1
