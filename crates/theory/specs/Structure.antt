-- The structure: its entries, the structure function, and the sub-structures that they build. Assumes nothing.
use Rattle.std.specs.Prelude.{ℕ, zero, suc, Bool, true, false, List, [], ◌∷◌, ◌++◌, get_or}
use Rattle.theory.specs.Sums.{EachOnce}
use Rattle.theory.specs.Joins.{joined}
use Rattle.theory.specs.declared.Join.{Join}
use Rattle.theory.specs.declared.Entry.{Entry}
use Rattle.theory.specs.declared.Entry.TheVariants.{Component as component, Join as join}

-- The entries run on a stack of any kind of thing, its top in front. A join that finds fewer than two leaves the stack as it is:
-- number 11 refuses such a structure before anything runs.
module _ {A : Type 0} (leaf : ℕ → A) (both : Join → A → A → A) where
  abbrev pub step : Entry → List A → List A
  step (component i) stack = leaf i ∷ stack
  step (join op) [] = []
  step (join op) (y ∷ []) = y ∷ []
  step (join op) (y ∷ x ∷ stack) = both op x y ∷ stack

  abbrev pub run : List Entry → List A → List A
  run [] stack = stack
  run (e ∷ es) stack = run es (step e stack)

-- The structure function Φ (source 002, definition 2.1): the drive's speed at given speeds of the components.
abbrev pub Φ : List Entry → List ℕ → ℕ
Φ es speeds = get_or (run (λ i. get_or speeds i 0) joined es []) 0 0

-- The components that the entries name, in order.
abbrev pub named : List Entry → List ℕ
named [] = []
named (component i ∷ es) = i ∷ named es
named (join op ∷ es) = named es

-- Each component below n is named exactly once, and no other (numbers 9 and 10).
abbrev pub NamedOnce : ℕ → List Entry → Type 0
NamedOnce n es = EachOnce n (named es)

-- From a stack of h lists on, no join finds fewer than two (number 11).
abbrev pub joins_find_two : List Entry → ℕ → Bool
joins_find_two [] h = true
joins_find_two (component i ∷ es) h = joins_find_two es (suc h)
joins_find_two (join op ∷ es) zero = false
joins_find_two (join op ∷ es) (suc zero) = false
joins_find_two (join op ∷ es) (suc (suc h)) = joins_find_two es (suc h)

-- A sub-structure is what one thing on the stack stands for.
pub data Tree : Type 0 where
  leaf : ℕ → Tree
  node : Join → Tree → Tree → Tree

abbrev pub trees : List Entry → List Tree
trees es = run leaf node es []

-- The components of a sub-structure.
abbrev pub leaves : Tree → List ℕ
leaves (leaf i) = i ∷ []
leaves (node op l r) = leaves l ++ leaves r
