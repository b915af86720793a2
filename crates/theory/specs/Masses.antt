-- "Words": the mass assignment of a component, with its rest (document 02, request four), and the total U. Assumes nothing.
use Rattle.std.specs.Prelude.{◌≡◌, Bool, true, false, cond, List, [], ◌∷◌, ℕ, ◌-◌, ◌≤◌, ltb}
use Rattle.theory.specs.Limits.{top_speed}
use Rattle.theory.specs.Sums.{sum_by, product_by, Every}
use Rattle.theory.specs.Focal.{focal, same_ends, listed, weights, InRange, Positive}
use Rattle.theory.specs.declared.Focal.{Focal}
use Rattle.theory.specs.Order.{merged}
use Rattle.theory.specs.declared.Component.{Component}

-- The rest: time that nobody accounted for, what the listed weights leave of T. It counts as an interval from 0 to 4,095.
abbrev pub rest : Component → ℕ
rest c = c.total - weights (listed c)

abbrev pub rest_focal : Component → Focal
rest_focal c = focal 0 top_speed (rest c)

-- A list with one interval more: f is added to the interval that equals it, or comes last. `others` has f added behind g.
abbrev pub added_at : Bool → Focal → Focal → List Focal → List Focal → List Focal
added_at true f g gs others = merged f g ∷ gs
added_at false f g gs others = g ∷ others

abbrev pub added : Focal → List Focal → List Focal
added f [] = f ∷ []
added f (g ∷ gs) = added_at (same_ends f.low f.high g.low g.high) f g gs (added f gs)

-- The mass assignment of a component (source 002, definition 2.2): each weight is a share of T. Where the listed weights add to less than
-- T, the rest is added to what is listed.
abbrev pub masses : Component → List Focal
masses c = cond (ltb (weights (listed c)) c.total) (added (rest_focal c) (listed c)) (listed c)

-- U is the product of all T.
abbrev pub total : List Component → ℕ
total = product_by (λ c. c.total)

-- How often the interval from a to b stands in a list, and that none stands there twice.
abbrev pub times_at : ℕ → ℕ → List Focal → ℕ
times_at a b = sum_by (λ f. cond (same_ends a b f.low f.high) 1 0)

abbrev pub Distinct : List Focal → Type 0
Distinct fs = (a b : ℕ) → times_at a b fs ≤ 1

-- What numbers 7 and 8 leave of an accepted sheet's mass assignments: intervals in range, each once, no weight 0, weights that add to T.
abbrev pub AllInRange : List Component → Type 0
AllInRange = Every (λ c. Every InRange (masses c))

abbrev pub AllPositive : List Component → Type 0
AllPositive = Every (λ c. Every Positive (masses c))

abbrev pub AllDistinct : List Component → Type 0
AllDistinct = Every (λ c. Distinct (masses c))

abbrev pub Balanced : List Component → Type 0
Balanced = Every (λ c. weights (masses c) ≡ c.total)
