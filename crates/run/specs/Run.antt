-- "Pairs, allowance and store": what the run of a plan answers, and each byte of the store afterwards. Assumes nothing.
use Rattle.std.specs.Prelude.{ℕ, ◌*◌, ◌≤◌, Result, Ok, Err, List, [], ◌∷◌, ◌++◌, length, get_or, drop, replicate}
use Rattle.theory.specs.Masses.{masses}
use Rattle.theory.specs.declared.Focal.{Focal}
use Rattle.theory.specs.Order.{collect}
use Rattle.theory.specs.Lists.{no_component}
use Rattle.theory.specs.Evaluation.{Evaluation, completed, refused, walk_lists}
use Rattle.theory.specs.Limits.{store_bytes}
use Rattle.records.specs.Store.{settled}
use Rattle.plan.specs.declared.Plan.{Plan}
use Rattle.plan.specs.Plan.{components_of, entries_of}
use Rattle.plan.specs.Valid.{Valid}
use Rattle.theory.specs.declared.Refusal.{Refusal}
use Rattle.theory.specs.Refusals.{refusal_number}
use Rattle.run.specs.declared.Run.{Run}

-- The bytes of the store (document 01: the list buffer) that a plan of n components needs. They are all that its run writes.
abbrev pub store_for : ℕ → ℕ
store_for n = store_bytes

abbrev pub needed : Plan → ℕ
needed p = store_for p.count

-- The list of component i.
abbrev pub leaf_list : Plan → ℕ → List Focal
leaf_list p i = collect (masses (get_or (components_of p) i no_component))

-- What the walk on lists, the method of theory's Evaluation, ends in.
unfoldable pub walked : Plan → ℕ → Evaluation (List Focal)
walked p allowance = walk_lists ◌*◌ allowance (leaf_list p) (entries_of p) [] 0

-- The topmost list of a stack. A plan that keeps the rules leaves just one.
abbrev pub topmost : List (List Focal) → List Focal
topmost [] = []
topmost (list ∷ stack) = list

-- What the run answers: 0, the pairs formed and the length of the list that is left; or a refusal's number and zeros.
pub record Ran : Type 0 where
  pub number : ℕ
  pub pairs : ℕ
  pub intervals : ℕ

abbrev pub ran_as : Result Run Refusal → Ran
ran_as (Ok r) = record { number = 0; pairs = r.pairs; intervals = r.intervals }
ran_as (Err refusal) = record { number = refusal_number refusal; pairs = 0; intervals = 0 }

abbrev pub ran_of : Evaluation (List Focal) → Ran
ran_of (completed stack pairs) = record { number = 0; pairs = pairs; intervals = length (topmost stack) }
ran_of (refused number) = record { number = number; pairs = 0; intervals = 0 }

-- Zero in its first `size` bytes, later bytes untouched.
abbrev pub cleared : ℕ → List ℕ → List ℕ
cleared size store = replicate size 0 ++ drop size store

-- The store after a run: the list that is left at its front and zeros behind it, or zeros.
abbrev pub store_of : ℕ → Evaluation (List Focal) → List ℕ → List ℕ
store_of size (completed stack pairs) store = settled size (topmost stack) store
store_of size (refused number) store = cleared size store

-- A plan that keeps the rules, and a store with the bytes that it needs.
pub record Runnable (p : Plan) (store : List ℕ) : Type 0 where
  pub valid : Valid p
  pub enough : needed p ≤ length store
