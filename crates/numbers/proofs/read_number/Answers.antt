-- `numbers::read_number` meets its contract. Assumes nothing.
use Rattle.std.proofs.Common.{◌≡◌, ◌<◌, ◌+◌, ◌-◌, ◌^◌, ℕ, refl, arith, get_or-drop, get_or-take, length-drop, length-take}
use Rattle.numbers.specs.Numbers.{onto, number_at}
use Rattle.numbers.proofs.Numbers.{pow7, number_lt, number_next}
use Rattle.numbers.proofs.read_number.Goals as goal
use Rattle.numbers.proofs.read_number.Goals.{In-loop-x}

pub loop-x-init : goal.loop-x-init
unfolding onto
loop-x-init c = refl

in_part : (c : In-loop-x) → c.loop-x.x-index < c.args.n
in_part c = omega (arith, length-take {A = ℕ})

-- At most seven bytes are passed.
small : (c : In-loop-x) → c.loop-x.acc < 2 ^ 56
small c =
    let k : ℕ = c.loop-x.x-index in
    let p : number_at c.args.s.now c.args.at k < 256 ^ k = number_lt c.args.s.now c.args.at k (λ i. (c.type_inv.s i).fits) in
    omega (arith, pow7 k (omega (arith, in_part c)))

pub overflow_mul-acc : goal.overflow_mul-acc
overflow_mul-acc c = rw c.pow2-base.ensures (omega (arith, small c))

pub overflow_add-acc : goal.overflow_add-acc
overflow_add-acc c = rw c.pow2-base.ensures (omega (arith, small (goal.at.overflow_add-acc c).In-loop-x))

pub loop-x-preserved : goal.loop-x-preserved
loop-x-preserved c =
    let k : ℕ = c.loop-x.x-index in
    let lt : k < c.args.at + c.args.n - c.args.at = omega (arith, in_part (goal.at.loop-x-preserved c).In-loop-x) in
    rw
    (number_next c.args.s.now c.args.at k (omega arith), c.pow2-base.ensures, c.from.ensures, c.loop-x.invariant, get_or-take, get_or-drop)

pub returns : goal.returns
returns c =
    let e : c.loop-x.x-index ≡ c.args.n = omega (arith, length-take {A = ℕ}, length-drop {A = ℕ}) in
    rw (← e) c.loop-x.invariant
