-- Document 02, request four: what a component's mass assignment has of what it lists. Assumes nothing.
use Rattle.std.specs.Prelude.{ℕ, ◌+◌, ◌≡◌, [], ◌∷◌}
use Rattle.theory.specs.Focal.{listed, weights}
use Rattle.theory.specs.Masses.{rest_focal, masses}
use Rattle.theory.specs.Choices.{weight_at}
use Rattle.theory.specs.declared.Component.{Component}

-- Proved for every component: proofs/Masses.antt.
pub record RestAdded (c : Component) : Type 0 where
  -- Where the listed weights add to T, the masses are the listed ones: so a sheet that was accepted before is answered as before.
  pub whole : weights (listed c) ≡ c.total → masses c ≡ listed c
  -- The rest is on the interval from 0 to 4,095, and every other interval has what is listed of it.
  pub weight_added : (a b : ℕ) → weight_at a b (masses c) ≡ weight_at a b (rest_focal c ∷ []) + weight_at a b (listed c)
