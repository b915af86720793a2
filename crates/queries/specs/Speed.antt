-- The test of a target, and what the search for a speed asks of its caller; the speed is theory's `speed_for`. Assumes nothing.
use Rattle.std.specs.Prelude.{ℕ, ◌≤◌, ◌<◌, List, [], ◌∷◌, length}
use Rattle.theory.specs.Limits.{thousandths}
use Rattle.theory.specs.Order.{InOrder}
use Rattle.plan.specs.Tests.{Test, test, outside}
use Rattle.theory.specs.declared.Focal.{Focal}
use Rattle.queries.specs.Shares.{Summable}

-- 16: the target is not 1 to 1,000.
abbrev pub target_tests : ℕ → List Test
target_tests target = test 16 (outside 1 thousandths target) ∷ []

-- The target is 1 to 1,000 thousandths of a total above 0.
pub record ValidTarget (target total : ℕ) : Type 0 where
  pub least : 0 < target
  pub most : target ≤ thousandths
  pub total_positive : 0 < total

-- A list whose weights fit and that is in order. One that is not empty is asked with a valid target.
pub record Searchable (l : List Focal) (target total : ℕ) : Type 0 where
  pub summable : Summable l
  pub ordered : InOrder l
  pub asked : 0 < length l → ValidTarget target total
