-- `queries::target_met` meets its contract: the product of target and total by quotient and rest of the total. Assumes nothing.
use Prim.Native.Nat.{ℕ, ◌+◌, ◌*◌, ◌/◌, ◌%◌}
use mathlib.Core.Path.{◌≡◌, refl, ap, ◌∙◌}
use mathlib.Core.Bool.{Bool, true, false}
use native.Mathlib.Nat.{mul-add, mul_left_comm}
use native.Mathlib.Omega.{arith}
use lib.Dec.{leb}
use borrow.Author.Tests.{leb-true, leb-false, le-leb, lt-leb}
use Rattle.std.specs.Int.{div_ceil}
use Rattle.theory.specs.Limits.{thousandths}
use Rattle.theory.specs.Speed.{meets}
use Rattle.queries.proofs.target_met.Goals as goal

-- The product, by quotient and rest.
split : (target total : ℕ) → target * total ≡ thousandths * (target * (total / 1000)) + target * (total % 1000)
split target total =
    let e : total ≡ 1000 * (total / 1000) + total % 1000 = omega arith in
    ap (target *◌) e ∙ (mul-add target (1000 * (total / 1000)) (total % 1000) ∙ ap (◌+ target * (total % 1000)) (mul_left_comm target 1000 (total / 1000)))

-- Its thousandth, rounded up.
abbrev least : ℕ → ℕ → ℕ
least target total = target * (total / 1000) + div_ceil (target * (total % 1000)) thousandths

compared : (target total share : ℕ) → leb (least target total) share ≡ meets target total share
compared target total share = go (meets target total share) refl
  where
    go : (b : Bool) → meets target total share ≡ b → leb (least target total) share ≡ b
    go true e = le-leb (least target total) share (omega (arith, split target total, leb-true (target * total) (thousandths * share) e))
    go false e = lt-leb (least target total) share (omega (arith, split target total, leb-false (target * total) (thousandths * share) e))

pub returns : goal.returns
returns c = rw (c.div_ceil.ensures, c.from-t.ensures) (compared c.args.target c.args.total c.args.share)
