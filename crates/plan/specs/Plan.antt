-- A plan holds the same facts as a sheet, as values: the components and the structure's entries, which are the sheet's codes.
-- Assumes nothing.
use Rattle.std.specs.Prelude.{ℕ, List, map, get_or, replicate}
use Rattle.theory.specs.Limits.{most_components, most_entries, entry_count}
use Rattle.theory.specs.Sums.{count_from}
use Rattle.theory.specs.declared.Entry.{Entry}
use Rattle.theory.specs.Codes.{entry_of}
use Rattle.theory.specs.Lists.{no_component}
use Rattle.theory.specs.declared.Component.{Component}
use Rattle.block.specs.Rows.{row}
use Rattle.block.specs.Block.{zero_component, cleaned}
use Rattle.plan.specs.declared.Plan.{Plan}

-- Component i of a plan.
abbrev pub component_at : Plan → ℕ → Component
component_at p i = get_or p.components i no_component

-- The components of a plan: the places in use.
abbrev pub components_of : Plan → List Component
components_of p = map (component_at p) (count_from 0 p.count)

-- The codes of a structure of n components: the places in use.
abbrev pub codes_in : List ℕ → ℕ → List ℕ
codes_in entries n = map (λ j. get_or entries j 0) (count_from 0 (entry_count n))

-- The codes of a plan.
abbrev pub codes_of : Plan → List ℕ
codes_of p = codes_in p.entries p.count

-- The structure that codes spell.
abbrev pub structure_in : List ℕ → ℕ → List Entry
structure_in entries n = map entry_of (codes_in entries n)

-- The structure of a plan.
abbrev pub entries_of : Plan → List Entry
entries_of p = structure_in p.entries p.count

-- A plan of zeros: what a refused sheet reads as.
abbrev pub zero_plan : Plan
zero_plan = record { components = replicate most_components zero_component; count = 0; entries = replicate most_entries 0 }

-- The same plan in the used places, zero in the others. Equality of plans speaks of used places: it is equality of this.
unfoldable pub cleaned_plan : Plan → Plan
cleaned_plan p =
    record {
      components = row zero_component most_components (λ i. cleaned (component_at p i)) p.count;
      count = p.count;
      entries = row 0 most_entries (λ j. get_or p.entries j 0) (entry_count p.count);
    }
