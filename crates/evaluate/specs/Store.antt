-- What the store holds after a call: every byte of it. Assumes nothing.
use Rattle.std.specs.Prelude.{ℕ, Bool, cond, ◌||◌, List, eqb, length}
use Rattle.theory.specs.declared.Focal.{Focal}
use Rattle.theory.specs.Structure.{Tree}
use Rattle.theory.specs.Evaluation.{Evaluation, completed, refused}
use Rattle.plan.specs.Tests.{Test}
use Rattle.records.specs.Store.{settled}
use Rattle.run.specs.Run.{needed, cleared}
use Rattle.evaluate.specs.Answer.{plan_of, sheet_list, call_tests, ending}

-- The numbers that a join is refused with.
abbrev pub is_late : ℕ → Bool
is_late number = eqb number 13 || eqb number 14

-- Accepted: the drive's list and zeros in the bytes that the plan needs. 13 and 14: zeros there. Every other number: unchanged.
abbrev pub store_by : Evaluation Tree → ℕ → List Focal → List ℕ → List ℕ
store_by (completed stack pairs) size list store = settled size list store
store_by (refused number) size list store = cond (is_late number) (cleared size store) store

-- The store after a call with these tests.
abbrev pub store_with : List Test → List ℕ → ℕ → List ℕ → List ℕ
store_with tests sheet allowance store = store_by (ending tests sheet allowance) (needed (plan_of sheet)) (sheet_list sheet) store

-- The store after the call on a sheet, a demand and an allowance.
unfoldable pub store_after : List ℕ → ℕ → List ℕ → List ℕ
store_after sheet allowance store = store_with (call_tests sheet (length store)) sheet allowance store
