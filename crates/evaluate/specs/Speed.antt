-- The call for a speed (document 02, request one): the greatest demand whose belief is at least a target. Assumes nothing.
use Rattle.std.specs.Prelude.{ℕ, Result, Ok, Err, List, ◌++◌, length}
use Rattle.theory.specs.declared.Focal.{Focal}
use Rattle.theory.specs.Masses.{total}
use Rattle.theory.specs.declared.Component.{Component}
use Rattle.theory.specs.declared.Entry.{Entry}
use Rattle.theory.specs.Structure.{Tree}
use Rattle.theory.specs.Lists.{drive_list}
use Rattle.theory.specs.Speed.{speed_for}
use Rattle.theory.specs.Evaluation.{Evaluation, completed, refused}
use Rattle.plan.specs.Tests.{Test}
use Rattle.queries.specs.Speed.{target_tests}
use Rattle.theory.specs.declared.Refusal.{Refusal}
use Rattle.theory.specs.Refusals.{refusal_number}
use Rattle.evaluate.specs.declared.AcceptedSpeed.{AcceptedSpeed}
use Rattle.evaluate.specs.Answer.{Answer, components, structure, call_tests, ending, refusal, answered_as, answer_of}
use Rattle.evaluate.specs.Store.{store_with}

-- Its tests: 1 to 12, as of any call; then 16, that of the target.
abbrev pub speed_tests : List ℕ → ℕ → ℕ → List Test
speed_tests sheet target room = call_tests sheet room ++ target_tests target

-- The speed: the greatest low of the drive's list that meets the target (`SpeedMet` says that no demand above it does); 0 where the call
-- is refused.
abbrev pub speed_by : Evaluation Tree → ℕ → ℕ → List Focal → ℕ
speed_by (refused number) target whole list = 0
speed_by (completed stack pairs) target whole list = speed_for target whole list

-- What is answered: the speed, and the other answers.
pub record SpeedAnswer : Type 0 where
  pub answer : Answer
  pub speed : ℕ

-- The same of each case of the call's answer: a refusal has the speed 0.
abbrev pub speed_as : Result AcceptedSpeed Refusal → SpeedAnswer
speed_as (Ok a) = record { answer = answered_as (Ok a.answer); speed = a.speed }
speed_as (Err r) = record { answer = refusal (refusal_number r); speed = 0 }

-- The other answers are those of an ordinary call with the speed as its demand.
abbrev pub speed_answer_of : Evaluation Tree → List Entry → List Component → ℕ → SpeedAnswer
speed_answer_of end es cs target =
    let speed : ℕ = speed_by end target (total cs) (drive_list es cs) in
    record { answer = answer_of end es cs speed; speed = speed }

-- What is answered for a sheet, a target, an allowance and a store of `room` bytes, and the store afterwards.
unfoldable pub speed_answer : List ℕ → ℕ → ℕ → ℕ → SpeedAnswer
speed_answer sheet target allowance room =
    speed_answer_of (ending (speed_tests sheet target room) sheet allowance) (structure sheet) (components sheet) target

unfoldable pub speed_store_after : List ℕ → ℕ → ℕ → List ℕ → List ℕ
speed_store_after sheet target allowance store = store_with (speed_tests sheet target (length store)) sheet allowance store
