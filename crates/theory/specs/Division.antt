-- "Words": dividing weights, draws, and the share of time at or above a demand that belongs to one division. Assumes nothing.
use Rattle.std.specs.Prelude.{ℕ, suc, ◌*◌, ◌<◌, cond, ◌≡◌, leb}
use mathlib.Core.List.{List, [], ◌∷◌, map, Forall₂}
use Rattle.theory.specs.Sums.{sum_by, product_by, one_of_each, count_from}
use Rattle.theory.specs.Masses.{masses}
use Rattle.theory.specs.Focal.{Inside}
use Rattle.theory.specs.declared.Focal.{Focal}
use Rattle.theory.specs.Limits.{top_speed}
use Rattle.theory.specs.declared.Entry.{Entry}
use Rattle.theory.specs.Structure.{Φ}
use Rattle.theory.specs.declared.Component.{Component}

-- The speeds 0 to 4,095.
unfoldable pub speeds : List ℕ
speeds = count_from 0 (suc top_speed)

-- How one weight is split: the whole part that each speed gets.
abbrev pub Parts : Type 0
Parts = ℕ → ℕ

-- m times the weight of f is split into whole parts that add up to it, each on one speed inside the interval of f.
pub record SplitsOne (m : ℕ) (f : Focal) (p : Parts) : Type 0 where
  pub inside : (s : ℕ) → 0 < p s → Inside f s
  pub whole : sum_by p speeds ≡ m * f.weight

-- Each weight of a list is split so, and each component's list of weights.
abbrev pub Splits : ℕ → List Focal → List Parts → Type 0
Splits m = Forall₂ (SplitsOne m)

abbrev pub Divides : ℕ → List Component → List (List Parts) → Type 0
Divides m = Forall₂ (λ c. Splits m (masses c))

-- A division: one whole number above 0 that multiplies every weight and every T, and the parts.
pub record Division (cs : List Component) : Type 0 where
  pub scale : ℕ
  pub parts : List (List Parts)
  pub scaled : 0 < scale
  pub divides : Divides scale cs parts

-- A draw takes one speed for each component.
abbrev pub draws : List (List Parts) → List (List ℕ)
draws pss = one_of_each (map (λ ps. speeds) pss)

-- All that a division puts on a speed of one component.
abbrev pub put_on : List Parts → ℕ → ℕ
put_on ps s = sum_by (λ p. p s) ps

-- A draw weighs the product, over the components, of all that is put on the drawn speed.
abbrev pub draw_weight : List (List Parts) → List ℕ → ℕ
draw_weight [] draw = 1
draw_weight (ps ∷ pss) [] = 1
draw_weight (ps ∷ pss) (s ∷ draw) = put_on ps s * draw_weight pss draw

-- The share of time at or above a demand d is a fraction: `share_above`, the weights of the draws whose joined speed is at least d,
abbrev pub share_above : List Entry → List (List Parts) → ℕ → ℕ
share_above es pss d = sum_by (λ draw. cond (leb d (Φ es draw)) (draw_weight pss draw) 0) (draws pss)

-- over `share_total`, the product of all the multiplied T.
abbrev pub share_total : ℕ → List Component → ℕ
share_total m cs = product_by (λ c. m * c.total) cs
