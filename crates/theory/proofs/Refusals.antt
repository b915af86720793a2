-- Laws of refusals, their numbers and single tests. Assumes nothing.
use Prim.Native.Nat.{ℕ, suc, ◌-◌, ◌<◌}
use mathlib.Core.Path.{◌≡◌, refl}
use mathlib.Core.Bool.{Bool, true, false, cond}
use native.Mathlib.Omega.{arith}
use Rattle.std.specs.Prelude.{Ok}
use Rattle.theory.specs.declared.Refusal.{Refusal}
use Rattle.theory.specs.declared.Refusal.TheVariants.{Length}
use Rattle.theory.specs.Refusals.{refusal_number, number_in, refused_when}

-- No refusal has the number 0.
pub positive : (r : Refusal) → 0 < refusal_number r
positive Length = omega arith
positive _ = omega arith

pub numbered : (r : Refusal) → refusal_number r ≡ 0 → ⊥
numbered r e = omega (arith, positive r)

pub above_zero : (r : Refusal) → (k : ℕ) × (refusal_number r ≡ suc k)
above_zero r = (refusal_number r - 1, omega (arith, positive r))

-- What one test answers has its number.
pub number_when : (r : Refusal) (b : Bool) → number_in (refused_when r b) ≡ cond b (refusal_number r) 0
number_when r true = refl
number_when r false = refl

-- A test that is passed is kept.
pub passed : (r : Refusal) (b : Bool) {x : Unit {0}} → Ok x ≡ refused_when r b → b ≡ false
passed r true e = cc
passed r false e = refl
