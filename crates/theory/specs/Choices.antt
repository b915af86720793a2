-- The definition that decides: the sum over all choices of one interval per component, evaluated through the whole structure
-- (source 002, definition 2.3 under independence, and formula (7)). Assumes nothing.
use Rattle.std.specs.Prelude.{ℕ, ◌≤◌, Bool, cond, ◌≡◌, leb}
use mathlib.Core.List.{List, map, Forall₂}
use Rattle.theory.specs.Sums.{sum_by, product_by, one_of_each}
use Rattle.theory.specs.Masses.{masses}
use Rattle.theory.specs.Focal.{focal, same_ends, Inside}
use Rattle.theory.specs.declared.Focal.{Focal}
use Rattle.theory.specs.declared.Entry.{Entry}
use Rattle.theory.specs.Structure.{Φ}
use Rattle.theory.specs.declared.Component.{Component}

-- Every choice takes one interval for each component.
abbrev pub choices : List Component → List (List Focal)
choices cs = one_of_each (map masses cs)

abbrev pub lows : List Focal → List ℕ
lows = map (λ f. f.low)

abbrev pub highs : List Focal → List ℕ
highs = map (λ f. f.high)

-- What a choice comes to: Φ of the lows, Φ of the highs, the product of the weights.
abbrev pub outcome : List Entry → List Focal → Focal
outcome es ch = focal (Φ es (lows ch)) (Φ es (highs ch)) (product_by (λ f. f.weight) ch)

abbrev pub outcomes : List Entry → List Component → List Focal
outcomes es cs = map (outcome es) (choices cs)

-- The weights of the intervals whose low and high pass a test, added up.
abbrev pub weight_where : (ℕ → ℕ → Bool) → List Focal → ℕ
weight_where test = sum_by (λ f. cond (test f.low f.high) f.weight 0)

-- Formula (7): the weights whose low is at least the demand d, and those whose high is.
abbrev pub belief : ℕ → List Focal → ℕ
belief d = weight_where (λ low high. leb d low)

abbrev pub plausibility : ℕ → List Focal → ℕ
plausibility d = weight_where (λ low high. leb d high)

-- The weight at the interval from a to b.
abbrev pub weight_at : ℕ → ℕ → List Focal → ℕ
weight_at a b = weight_where (same_ends a b)

-- A row of speeds has one inside each interval of a choice.
abbrev pub Within : List Focal → List ℕ → Type 0
Within = Forall₂ Inside

-- The outcome of a choice spans its speeds: no speed lies outside, and both ends are speeds of the choice.
pub record Spans (es : List Entry) (ch : List Focal) : Type 0 where
  pub least : (v : List ℕ) → Within ch v → (outcome es ch).low ≤ Φ es v
  pub greatest : (v : List ℕ) → Within ch v → Φ es v ≤ (outcome es ch).high
  pub least_met : (v : List ℕ) × Within ch v × (Φ es v ≡ (outcome es ch).low)
  pub greatest_met : (v : List ℕ) × Within ch v × (Φ es v ≡ (outcome es ch).high)
