-- What a call answers: in general, by its tests; and the ordinary call, on a sheet, a demand and an allowance. Assumes nothing.
use Rattle.std.specs.Prelude.{ℕ, zero, suc, Result, Ok, Err, List, [], ◌∷◌, ◌++◌, ltb, length}
use Rattle.theory.specs.declared.Focal.{Focal}
use Rattle.theory.specs.Masses.{total}
use Rattle.theory.specs.declared.Component.{Component}
use Rattle.theory.specs.declared.Entry.{Entry}
use Rattle.theory.specs.Structure.{Tree}
use Rattle.theory.specs.declared.Refusal.{Refusal}
use Rattle.theory.specs.Refusals.{refusal_number}
use Rattle.theory.specs.Choices.{outcomes, belief, plausibility}
use Rattle.theory.specs.Lists.{drive_list}
use Rattle.theory.specs.Evaluation.{Evaluation, completed, refused, evaluate}
use Rattle.plan.specs.declared.Plan.{Plan}
use Rattle.plan.specs.Tests.{Test, test, first_broken}
use Rattle.plan.specs.Plan.{components_of, entries_of}
use Rattle.reading.specs.Reading.{sheet_tests, read_of}
use Rattle.run.specs.Run.{needed}
use Rattle.evaluate.specs.declared.Accepted.{Accepted}

-- The plan that a sheet reads as, its components and its structure.
abbrev pub plan_of : List ℕ → Plan
plan_of sheet = (read_of sheet).plan

abbrev pub components : List ℕ → List Component
components sheet = components_of (plan_of sheet)

abbrev pub structure : List ℕ → List Entry
structure sheet = entries_of (plan_of sheet)

-- The outcomes of all choices, and the drive's list.
abbrev pub sheet_outcomes : List ℕ → List Focal
sheet_outcomes sheet = outcomes (structure sheet) (components sheet)

abbrev pub sheet_list : List ℕ → List Focal
sheet_list sheet = drive_list (structure sheet) (components sheet)

-- The tests that every call has first: 1 to 11 by the sheet; then 12, the store of `room` bytes has fewer than the plan needs.
abbrev pub call_tests : List ℕ → ℕ → List Test
call_tests sheet room = sheet_tests sheet ++ (test 12 (ltb room (needed (plan_of sheet))) ∷ [])

-- The run: the evaluation of the structure under the allowance, with 13 and 14 at each join.
abbrev pub evaluated : List ℕ → ℕ → Evaluation Tree
evaluated sheet allowance = evaluate (components sheet) allowance (structure sheet)

-- A number above 0 of the tests refuses; otherwise the run counts.
abbrev pub tested_first : {A : Type 0} → ℕ → Evaluation A → Evaluation A
tested_first zero run = run
tested_first (suc k) run = refused (suc k)

-- What a call with these tests ends in: the first that is broken decides.
abbrev pub ending : List Test → List ℕ → ℕ → Evaluation Tree
ending tests sheet allowance = tested_first (first_broken tests) (evaluated sheet allowance)

-- What a call answers: the number, the total U, the two shares of it, the pairs formed and the length of the drive's list.
pub record Answer : Type 0 where
  pub number : ℕ
  pub total : ℕ
  pub belief : ℕ
  pub plausibility : ℕ
  pub pairs : ℕ
  pub intervals : ℕ

-- A refusal answers its number and zeros.
abbrev pub refusal : ℕ → Answer
refusal number = record { number = number; total = 0; belief = 0; plausibility = 0; pairs = 0; intervals = 0 }

-- The number and the values of each case of a call's answer.
abbrev pub answered_as : Result Accepted Refusal → Answer
answered_as (Ok a) =
    record {
      number = 0;
      total = a.run.total;
      belief = a.shares.belief;
      plausibility = a.shares.plausibility;
      pairs = a.run.pairs;
      intervals = a.run.intervals;
    }
answered_as (Err r) = refusal (refusal_number r)

-- An accepted call answers 0, U, formula (7) over all choices, the pairs formed and the length of the drive's list.
abbrev pub answer_of : Evaluation Tree → List Entry → List Component → ℕ → Answer
answer_of (refused number) es cs demand = refusal number
answer_of (completed stack pairs) es cs demand =
    record {
      number = 0;
      total = total cs;
      belief = belief demand (outcomes es cs);
      plausibility = plausibility demand (outcomes es cs);
      pairs = pairs;
      intervals = length (drive_list es cs);
    }

-- The answer of a call with these tests.
abbrev pub answer_with : List Test → List ℕ → ℕ → ℕ → Answer
answer_with tests sheet demand allowance = answer_of (ending tests sheet allowance) (structure sheet) (components sheet) demand

-- The ordinary call: the answer for a sheet, a demand, an allowance and a store of `room` bytes.
unfoldable pub answer : List ℕ → ℕ → ℕ → ℕ → Answer
answer sheet demand allowance room = answer_with (call_tests sheet room) sheet demand allowance
