-- "Joins": the drive's list and that of a sub-structure. Assumes nothing.
use Rattle.std.specs.Prelude.{ℕ, ◌*◌, List, [], get_or}
use Rattle.theory.specs.Sums.{product_by}
use Rattle.theory.specs.declared.Focal.{Focal}
use Rattle.theory.specs.Order.{collect}
use Rattle.theory.specs.Masses.{masses}
use Rattle.theory.specs.Joins.{pairs_by, pairs}
use Rattle.theory.specs.declared.Entry.{Entry}
use Rattle.theory.specs.Structure.{Tree, leaf, node, leaves}
use Rattle.theory.specs.Choices.{outcomes}
use Rattle.theory.specs.declared.Component.{Component}
use Rattle.theory.specs.declared.Join.{Join}

-- The drive's list: the collected outcomes of all choices.
abbrev pub drive_list : List Entry → List Component → List Focal
drive_list es cs = collect (outcomes es cs)

-- The list of a join of two lists. How two weights are multiplied is a parameter.
abbrev pub join_lists_by : (ℕ → ℕ → ℕ) → Join → List Focal → List Focal → List Focal
join_lists_by times op fs gs = collect (pairs_by times op fs gs)

abbrev pub join_lists : Join → List Focal → List Focal → List Focal
join_lists = join_lists_by ◌*◌

-- Past the last component there is `no_component`.
abbrev pub no_component : Component
no_component = record { lows = []; highs = []; weights = []; count = 0; total = 0 }

-- What the choices of one interval for each component of a sub-structure come to.
abbrev pub outcomes_of : List Component → Tree → List Focal
outcomes_of cs (leaf i) = masses (get_or cs i no_component)
outcomes_of cs (node op l r) = pairs op (outcomes_of cs l) (outcomes_of cs r)

-- The list of a sub-structure.
abbrev pub list_of : List Component → Tree → List Focal
list_of cs t = collect (outcomes_of cs t)

-- The product of the totals under a sub-structure.
abbrev pub total_of : List Component → Tree → ℕ
total_of cs t = product_by (λ i. (get_or cs i no_component).total) (leaves t)
