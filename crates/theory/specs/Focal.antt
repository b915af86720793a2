-- "Words": speeds, intervals with their weights, and what a sheet lists of a component. Assumes nothing.
use Rattle.std.specs.Prelude.{ℕ, ◌≤◌, ◌<◌, Bool, ◌&&◌, List, map, eqb, get_or}
use Rattle.theory.specs.Limits.{top_speed}
use Rattle.theory.specs.Sums.{sum_by, count_from}
use Rattle.theory.specs.declared.Component.{Component}
use Rattle.theory.specs.declared.Focal.{Focal}

-- A focal element (source 002, definition 2.2; the struct is in src/lib.rt): the interval from `low` to `high` with its weight. Past the end
-- of a list there is `no_focal`.
abbrev pub focal : ℕ → ℕ → ℕ → Focal
focal low high weight = record { low = low; high = high; weight = weight }

abbrev pub no_focal : Focal
no_focal = focal 0 0 0

-- The speed s lies inside the interval.
abbrev pub Inside : Focal → ℕ → Type 0
Inside f s = (f.low ≤ s) × (s ≤ f.high)

-- The interval from low to high is that from a to b.
abbrev pub same_ends : ℕ → ℕ → ℕ → ℕ → Bool
same_ends a b low high = eqb a low && eqb b high

-- The interval at place i of a component.
abbrev pub focal_at : Component → ℕ → Focal
focal_at c i = focal (get_or c.lows i 0) (get_or c.highs i 0) (get_or c.weights i 0)

-- What a sheet lists of a component: its intervals in use.
abbrev pub listed : Component → List Focal
listed c = map (focal_at c) (count_from 0 c.count)

-- The sum of the weights of a list.
abbrev pub weights : List Focal → ℕ
weights = sum_by (λ f. f.weight)

-- What number 7 leaves of an accepted sheet's intervals, and joins keep: low at most high, and no speed above 4,095;
pub record InRange (f : Focal) : Type 0 where
  pub low_high : f.low ≤ f.high
  pub below : f.high ≤ top_speed

-- and no weight 0.
abbrev pub Positive : Focal → Type 0
Positive f = 0 < f.weight
