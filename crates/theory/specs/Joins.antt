-- "Joins": the three joins of two speeds, the shared one with its ceiling (document 02, request six), and of two lists. Assumes nothing.
use Rattle.std.specs.Prelude.{ℕ, ◌+◌, ◌*◌, min, max, List, map}
use Rattle.theory.specs.Limits.{top_speed}
use Rattle.theory.specs.Sums.{for_each}
use Rattle.theory.specs.Focal.{focal}
use Rattle.theory.specs.declared.Focal.{Focal}
use Rattle.theory.specs.declared.Join.{Join}
use Rattle.theory.specs.declared.Join.TheVariants.{Series, Shared, Spare}

-- Series: the smaller speed. Shared: the sum or 4,095, whichever is smaller. Spare: the larger speed.
abbrev pub joined : Join → ℕ → ℕ → ℕ
joined Series x y = min x y
joined Shared x y = min (x + y) top_speed
joined Spare x y = max x y

-- Two intervals joined: lows and highs separately, weights multiplied. How two weights are multiplied is a parameter.
module _ (times : ℕ → ℕ → ℕ) where
  abbrev pub joined_by : Join → Focal → Focal → Focal
  joined_by op f g = focal (joined op f.low g.low) (joined op f.high g.high) (times f.weight g.weight)

  -- Every interval of one list meets every interval of the other.
  abbrev pub pairs_by : Join → List Focal → List Focal → List Focal
  pairs_by op fs gs = for_each fs (λ f. map (joined_by op f) gs)

-- Document 01 multiplies weights exactly.
abbrev pub joined_focal : Join → Focal → Focal → Focal
joined_focal = joined_by ◌*◌

abbrev pub pairs : Join → List Focal → List Focal → List Focal
pairs = pairs_by ◌*◌
