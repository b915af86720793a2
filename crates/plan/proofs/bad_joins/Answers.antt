-- `plan::bad_joins` meets its contract. Assumes nothing.
use Rattle.std.proofs.Common.{◌≡◌, ◌<◌, ℕ, zero, suc, refl, false, List, ◌∷◌, arith}
use Rattle.std.proofs.lemmas.Grind.{common_steps}
use Rattle.theory.specs.Structure.{joins_find_two}
use Rattle.theory.specs.declared.Entry.{Entry}
use Rattle.theory.specs.declared.Entry.TheVariants.{Join as join}
use Rattle.theory.specs.declared.Join.{Join}
use Rattle.plan.specs.Rules.{rule11}
use Rattle.plan.proofs.bad_joins.Goals as goal

-- A join finds fewer than two of h lists.
few : (op : Join) (es : List Entry) (h : ℕ) → h < 2 → joins_find_two (join op ∷ es) h ≡ false
few op es zero l = refl
few op es (suc zero) l = refl
few op es (suc (suc h)) l = absurd (omega arith)

pub returns-in-Join : goal.returns-in-Join
unfolding rule11
returns-in-Join c = grind (arith, common_steps, few)

pub returns : goal.returns
unfolding rule11
returns c = grind (arith, common_steps)
