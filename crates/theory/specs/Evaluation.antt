-- "Pairs, allowance and store": the pair count, and the evaluation under an allowance with numbers 13 and 14. Assumes nothing.
use Rattle.std.specs.Prelude.{ℕ, ◌+◌, ◌*◌, Bool, true, false, List, [], ◌∷◌, ltb, length}
use Rattle.theory.specs.Limits.{most_intervals}
use Rattle.theory.specs.declared.Focal.{Focal}
use Rattle.theory.specs.declared.Entry.{Entry}
use Rattle.theory.specs.declared.Entry.TheVariants.{Component as component, Join as join}
use Rattle.theory.specs.Structure.{Tree, leaf, node}
use Rattle.theory.specs.Lists.{join_lists_by, list_of}
use Rattle.theory.specs.declared.Component.{Component}
use Rattle.theory.specs.declared.Join.{Join}

-- The pairs that the joins of a sub-structure form, each the product of its two lists' lengths after merging.
abbrev pub pair_count : List Component → Tree → ℕ
pair_count cs (leaf i) = 0
pair_count cs (node op l r) = pair_count cs l + pair_count cs r + length (list_of cs l) * length (list_of cs r)

-- What an evaluation ends in: the stack with the pairs formed, or the number of the refusal.
pub data Evaluation (A : Type 0) : Type 0 where
  completed : List A → ℕ → Evaluation A
  refused : ℕ → Evaluation A

-- A test that is true refuses; otherwise what comes behind it counts.
abbrev pub refuse_if : {A : Type 0} → Bool → ℕ → Evaluation A → Evaluation A
refuse_if true number e = refused number
refuse_if false number e = e

-- The walk over the entries, on a stack of things that each have a list of intervals. At each join, in structure order: 13, the pairs
-- formed so far and those of this join exceed the allowance; 14, this join's list has more than 256 different intervals.
module _ {A : Type 0} (allowance : ℕ) (list : A → List Focal) (leaf_of : ℕ → A) (both : Join → A → A → A) where
  abbrev pub walk : List Entry → List A → ℕ → Evaluation A
  walk [] stack n = completed stack n
  walk (component i ∷ es) stack n = walk es (leaf_of i ∷ stack) n
  walk (join op ∷ es) [] n = walk es [] n
  walk (join op ∷ es) (y ∷ []) n = walk es (y ∷ []) n
  walk (join op ∷ es) (y ∷ x ∷ stack) n =
      let m : ℕ = n + length (list x) * length (list y) in
      refuse_if (ltb allowance m) 13
      (refuse_if (ltb most_intervals (length (list (both op x y)))) 14
      (walk es (both op x y ∷ stack) m))

-- The evaluation of a structure: each sub-structure has the list that its choices collect to.
abbrev pub evaluate : List Component → ℕ → List Entry → Evaluation Tree
evaluate cs allowance es = walk allowance (list_of cs) leaf node es [] 0

-- The method: lists on the stack, merged at each join. How two weights are multiplied is a parameter.
abbrev pub walk_lists : (ℕ → ℕ → ℕ) → ℕ → (ℕ → List Focal) → List Entry → List (List Focal) → ℕ → Evaluation (List Focal)
walk_lists times allowance leaf_list = walk allowance (λ l. l) leaf_list (join_lists_by times)
