-- The speed that can be promised (document 02, request one): the greatest demand whose belief is at least a target. Assumes nothing.
use Rattle.std.specs.Prelude.{ℕ, ◌*◌, ◌≤◌, Bool, cond, List, leb}
use Rattle.theory.specs.Limits.{thousandths}
use Rattle.theory.specs.Sums.{greatest_by}
use Rattle.theory.specs.declared.Focal.{Focal}
use Rattle.theory.specs.Choices.{belief}

-- `share` is at least `target` thousandths of `whole`, compared as whole numbers, without rounding.
abbrev pub Meets : ℕ → ℕ → ℕ → Type 0
Meets target whole share = target * whole ≤ thousandths * share

abbrev pub meets : ℕ → ℕ → ℕ → Bool
meets target whole share = leb (target * whole) (thousandths * share)

-- `speed` is a demand that meets the target, and of all demands that do the greatest: the promised speed.
pub record GreatestDemand (target whole : ℕ) (belief_at : ℕ → ℕ) (speed : ℕ) : Type 0 where
  pub met : Meets target whole (belief_at speed)
  pub greatest : (d : ℕ) → Meets target whole (belief_at d) → d ≤ speed

-- The low of the interval f of a list l where belief at that low meets the target, else 0.
abbrev pub low_if_met : ℕ → ℕ → List Focal → Focal → ℕ
low_if_met target whole l f = cond (meets target whole (belief f.low l)) f.low 0

-- The greatest low of a list that meets the target, 0 where none does.
abbrev pub speed_for : ℕ → ℕ → List Focal → ℕ
speed_for target whole l = greatest_by (low_if_met target whole l) l
