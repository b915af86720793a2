-- At the lows and at the highs of a choice the structure function has the least and the greatest speed of that choice, so the
-- interval by its bounds has the belief and plausibility of definition 2.3's set. Assumes nothing.
use mathlib.Core.Path.{refl}
use mathlib.Core.List.Forall₂
use mathlib.Core.List.{List, map}
use Rattle.theory.specs.Sums.{Every}
use Rattle.theory.specs.Masses.{masses, AllInRange}
use Rattle.theory.specs.Focal.{InRange}
use Rattle.theory.specs.declared.Focal.{Focal}
use Rattle.theory.specs.declared.Entry.{Entry}
use Rattle.theory.specs.Choices.{choices, lows, highs, Within, Spans}
use Rattle.theory.specs.declared.Component.{Component}
use Rattle.theory.proofs.Monotone.{Side, lower, upper, end, at_least, at_most, end_inside, ends_bound, Φ-bounding}
use Rattle.theory.proofs.Every.{every_map, every_image, every_one_of_each}

ends_within : (side : Side) {ch : List Focal} → Every InRange ch → Within ch (map (end side) ch)
ends_within side Every.none = Forall₂.nil
ends_within side (Every.more {x = f} h r) = Forall₂.cons (end_inside side f h.low_high) (ends_within side r)

spans : (es : List Entry) {ch : List Focal} → Every InRange ch → Spans es ch
spans es {ch} r = record {
  least = λ v w. at_least (Φ-bounding lower (ends_bound lower w) es);
  greatest = λ v w. at_most (Φ-bounding upper (ends_bound upper w) es);
  least_met = (lows ch, ends_within lower r, refl);
  greatest_met = (highs ch, ends_within upper r, refl);
}

-- This holds of every choice of an accepted sheet's components.
pub spans_choices : (es : List Entry) {cs : List Component} → AllInRange cs → Every (Spans es) (choices cs)
spans_choices es r = every_map (λ ch. spans es) (every_one_of_each (every_image masses (λ c h. h) r))
