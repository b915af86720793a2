-- What tests and run answer in every call, before the list is asked. Assumes nothing.
use Rattle.std.specs.Prelude.{ℕ, cond, Result, Ok, Err, List, eqb, length}
use Rattle.theory.specs.Structure.{Tree}
use Rattle.theory.specs.Evaluation.{Evaluation}
use Rattle.plan.specs.Tests.{first_broken}
use Rattle.theory.specs.declared.Refusal.{Refusal}
use Rattle.theory.specs.Refusals.{refusal_number}
use Rattle.evaluate.specs.declared.AcceptedRun.{AcceptedRun}
use Rattle.run.specs.Run.{needed}
use Rattle.evaluate.specs.Answer.{Answer, plan_of, components, structure, sheet_list, call_tests, evaluated, tested_first, refusal, answer_of}
use Rattle.evaluate.specs.Store.{store_by}

-- The number of a call's tests: 1 to 12, then `own`, the number of its own tests.
abbrev pub number_then : List ℕ → ℕ → ℕ → ℕ
number_then sheet room own = cond (eqb (first_broken (call_tests sheet room)) 0) own (first_broken (call_tests sheet room))

-- What is answered before the list is asked: the number, the total U, the pairs formed and the length of the drive's list.
pub record SheetRun : Type 0 where
  pub number : ℕ
  pub total : ℕ
  pub pairs : ℕ
  pub intervals : ℕ

-- An answer without its shares.
abbrev pub without_shares : Answer → SheetRun
without_shares a = record { number = a.number; total = a.total; pairs = a.pairs; intervals = a.intervals }

-- A refusal's number and zeros.
abbrev pub refused_run : ℕ → SheetRun
refused_run number = without_shares (refusal number)

-- The number and the values of each case of what tests and run answer.
abbrev pub run_as : Result AcceptedRun Refusal → SheetRun
run_as (Ok r) = record { number = 0; total = r.total; pairs = r.pairs; intervals = r.intervals }
run_as (Err r) = refused_run (refusal_number r)

-- What a call answers by what it ends in: that, or 0, U, the pairs formed and the length of the drive's list, as an ordinary call at any demand.
abbrev pub sheet_run_of : Evaluation Tree → List ℕ → SheetRun
sheet_run_of end sheet = without_shares (answer_of end (structure sheet) (components sheet) 0)

-- What a call ends in, and the store after it, by the number of its tests.
abbrev pub ending_at : ℕ → List ℕ → ℕ → Evaluation Tree
ending_at number sheet allowance = tested_first number (evaluated sheet allowance)

abbrev pub store_at : ℕ → List ℕ → ℕ → List ℕ → List ℕ
store_at number sheet allowance store = store_by (ending_at number sheet allowance) (needed (plan_of sheet)) (sheet_list sheet) store

-- Tests and run of a call whose own tests have the number `own`: what they answer, and the store after them.
abbrev pub sheet_run : List ℕ → ℕ → ℕ → ℕ → SheetRun
sheet_run sheet room own allowance = sheet_run_of (ending_at (number_then sheet room own) sheet allowance) sheet

abbrev pub store_then : List ℕ → ℕ → ℕ → List ℕ → List ℕ
store_then sheet own allowance store = store_at (number_then sheet (length store) own) sheet allowance store
