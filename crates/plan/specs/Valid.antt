-- What a plan that keeps the rules 3, 4 and 6 to 11 has: all that the drive calculation and the demands ask of it. Assumes nothing.
use Rattle.std.specs.Prelude.{ℕ, ◌+◌, ◌*◌, ◌≤◌, ◌<◌, ◌≡◌, true, length}
use Rattle.theory.specs.Sums.{Every}
use Rattle.theory.specs.Masses.{AllInRange, AllPositive, AllDistinct, Balanced}
use Rattle.theory.specs.Focal.{listed, weights, InRange}
use Rattle.theory.specs.Limits.{most_held, most_total, most_components}
use Rattle.theory.specs.Structure.{joins_find_two, NamedOnce}
use Rattle.theory.specs.declared.Entry.{Entry}
use Rattle.theory.specs.declared.Entry.TheVariants.{Component as component, Join as join}
use Rattle.theory.specs.declared.Join.{Join}
use Rattle.plan.specs.declared.Plan.{Plan}
use Rattle.plan.specs.Plan.{components_of, entries_of}

-- An entry names a component below n, or is a join.
pub data Known (n : ℕ) : Entry → Type 0 where
  names : {i : ℕ} → i < n → Known n (component i)
  joins : {op : Join} → Known n (join op)

pub record Valid (p : Plan) : Type 0 where
  pub least : 1 ≤ p.count
  pub most : p.count ≤ most_components
  pub counts : Every (λ c. (1 ≤ c.count) × (c.count ≤ most_held)) (components_of p)
  pub totals : Every (λ c. (1 ≤ c.total) × (c.total ≤ most_total)) (components_of p)
  pub listed_in_range : Every (λ c. Every InRange (listed c)) (components_of p)
  pub at_most : Every (λ c. weights (listed c) ≤ c.total) (components_of p)
  pub in_range : AllInRange (components_of p)
  pub positive : AllPositive (components_of p)
  pub distinct : AllDistinct (components_of p)
  pub balanced : Balanced (components_of p)
  pub known : Every (Known p.count) (entries_of p)
  pub named_once : NamedOnce p.count (entries_of p)
  pub find_two : joins_find_two (entries_of p) 0 ≡ true
  pub entries : length (entries_of p) + 1 ≡ 2 * p.count
