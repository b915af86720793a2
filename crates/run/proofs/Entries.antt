-- The entries of a plan: how many are components and how many joins. Assumes nothing.
use Prim.Native.Nat.{ℕ, suc, ◌+◌}
use mathlib.Core.Path.{◌≡◌, refl}
use mathlib.Core.List.{List, [], ◌∷◌}
use native.Mathlib.Omega.{arith}
use lib.ListN.{length}
use Rattle.theory.specs.declared.Entry.{Entry}
use Rattle.theory.specs.declared.Entry.TheVariants.{Component as component, Join as join}
use Rattle.theory.specs.Structure.{named}

-- How many joins entries have.
abbrev pub join_count : List Entry → ℕ
join_count [] = 0
join_count (component i ∷ es) = join_count es
join_count (join op ∷ es) = suc (join_count es)

pub counted : (es : List Entry) → length es ≡ length (named es) + join_count es
counted [] = refl
counted (component i ∷ es) = omega (arith, counted es)
counted (join op ∷ es) = omega (arith, counted es)
