-- The number of a call: the first of its tests that is broken, or that of the run. Assumes nothing.
use Prim.Native.Nat.{ℕ, zero, suc, ◌≤◌, ◌<◌}
use mathlib.Core.Path.{◌≡◌, refl, sym, ap, ◌∙◌}
use mathlib.Core.Bool.{Bool, true, false, cond}
use mathlib.Core.Logic.{◌⊎◌}
use mathlib.Core.List.{List, [], ◌∷◌, ◌++◌}
use native.Mathlib.Decide.{ℕ_discrete}
use native.Mathlib.Omega.{arith}
use lib.Dec.{ltb}
use lib.ListN.{length}
use borrow.Author.Tests.{ltb-false}
use Rattle.std.specs.Prelude.{Result, Ok, Err}
use Rattle.theory.specs.Sums.{Every}
use Rattle.theory.specs.Structure.{Tree}
use Rattle.theory.specs.Evaluation.{Evaluation, completed, refused}
use Rattle.theory.specs.declared.Refusal.{Refusal}
use Rattle.theory.specs.declared.Refusal.TheVariants.{Length, Store}
use Rattle.theory.specs.Refusals.{refusal_number, number_in, refused_when}
use Rattle.theory.proofs.Refusals.{positive}
use Rattle.theory.proofs.Method.{evaluate-refused}
use Rattle.plan.specs.declared.Plan.{Plan}
use Rattle.plan.specs.Tests.{Test, test, first_broken, Unbroken, outside, any_of}
use Rattle.plan.proofs.Numbers.{no_number, number_never, first_found, first_none, first_then}
use Rattle.reading.specs.Reading.{Reading, reading_as, sheet_tests, read_of}
use Rattle.reading.proofs.Decided.{read_number_is}
use Rattle.run.specs.Run.{needed}
use Rattle.evaluate.specs.Answer.{plan_of, components, structure, sheet_outcomes, call_tests, evaluated, tested_first, ending, answer_with, answer}
use Rattle.evaluate.specs.Store.{is_late, store_with, store_after}
use Rattle.evaluate.specs.SheetRun.{number_then, ending_at, sheet_run_of}
use Rattle.evaluate.specs.Speed.{speed_tests, speed_answer_of, speed_answer, speed_store_after}
use Rattle.evaluate.specs.Set.{set_tests, shares_by, set_answer, set_store_after, shares_after}

-- The tests of a call.
module _ (s : List ℕ) (room : ℕ) where
  abbrev twelve : List Test
  twelve = test 12 (ltb room (needed (plan_of s))) ∷ []

  number_unread : ((read_of s).number ≡ 0 → ⊥) → first_broken (call_tests s room) ≡ (read_of s).number
  number_unread h = first_found (sheet_tests s) twelve (λ z. h (read_number_is s ∙ z)) ∙ sym (read_number_is s)

  number_read : (read_of s).number ≡ 0 → first_broken (call_tests s room) ≡ cond (ltb room (needed (plan_of s))) 12 0
  number_read z = first_none twelve (no_number 11 (sheet_tests s) refl (sym (read_number_is s) ∙ z))

  -- What is known of a sheet and a store where no test is broken.
  pub tests_say : first_broken (call_tests s room) ≡ 0 → ((read_of s).number ≡ 0) × (needed (plan_of s) ≤ room)
  tests_say e = elim (ℕ_discrete (read_of s).number 0) [
    | yes z ↦ (z, room_there (ltb room (needed (plan_of s))) refl (sym (number_read z) ∙ e))
    | no n ↦ absurd (n (sym (number_unread n) ∙ e))
  ]
    where
      room_there : (b : Bool) → ltb room (needed (plan_of s)) ≡ b → ◌≡◌ {A = ℕ} (cond b 12 0) 0 → needed (plan_of s) ≤ room
      room_there true q z = absurd (omega arith)
      room_there false q z = ltb-false room (needed (plan_of s)) q

  -- The number of a sheet that is refused, and of one that is read, by what test 12 answers.
  pub number_refused : (r : Refusal) → reading_as (Err r) ≡ read_of s → refusal_number r ≡ first_broken (call_tests s room)
  number_refused r e =
      let n : refusal_number r ≡ (read_of s).number = sym (go r) ∙ ap (λ (x : Reading). x.number) e in
      n ∙ sym (number_unread (λ z. omega (arith, positive r, n)))
    where
      go : (r : Refusal) → (reading_as (Err r)).number ≡ refusal_number r
      go Length = refl
      go _ = refl

  pub number_accepted : {p : Plan} → reading_as (Ok p) ≡ read_of s → {n : ℕ} → n ≡ needed p
      → {x : Result (Unit {0}) Refusal} → x ≡ refused_when Store (ltb room n) → number_in x ≡ first_broken (call_tests s room)
  number_accepted {p} e m h = ap number_in h ∙ (rw m (go (ltb room (needed p))) ∙ sym (number_read (ap (λ (y : Reading). y.number) (sym e))))
    where
      go : (b : Bool) → number_in (refused_when Store b) ≡ cond b 12 0
      go true = refl
      go false = refl

-- ---- the tests of any call

-- Where none is broken all are kept, and their number is never 13 or 14.
pub record Numbered (tests : List Test) : Type 0 where
  pub kept : first_broken tests ≡ 0 → Every Unbroken tests
  pub early : is_late (first_broken tests) ≡ false

-- It is seen by two tests of all numbers. (27 is the last number of document 02.)
numbered_by : (tests : List Test) → any_of (λ t. outside 1 27 t.number) tests ≡ false → any_of (λ t. is_late t.number) tests ≡ false → Numbered tests
numbered_by tests e f = record { kept = no_number 27 tests e; early = number_never is_late refl tests f }

pub call_numbered : (s : List ℕ) (room : ℕ) → Numbered (call_tests s room)
call_numbered s room = numbered_by (call_tests s room) refl refl

pub speed_numbered : (s : List ℕ) (target room : ℕ) → Numbered (speed_tests s target room)
speed_numbered s target room = numbered_by (speed_tests s target room) refl refl

pub set_numbered : (s demands : List ℕ) (room bytes : ℕ) → Numbered (set_tests s demands room bytes)
set_numbered s demands room bytes = numbered_by (set_tests s demands room bytes) refl refl

-- A call's own tests come behind the others.
pub number_then_is : (s : List ℕ) (room : ℕ) (own : List Test) → number_then s room (first_broken own) ≡ first_broken (call_tests s room ++ own)
number_then_is s room own = first_then 12 (call_tests s room) own refl

-- What a call ends in, by the number of its tests: refused by a test, at a join, or accepted.
pub data Ended (number : ℕ) (s : List ℕ) (allowance : ℕ) : Evaluation Tree → Type 0 where
  tested : {k : ℕ} → 0 < k → number ≡ k → Ended number s allowance (refused k)
  stopped : {k : ℕ} → number ≡ 0 → (k ≡ 13) ⊎ (k ≡ 14) → evaluated s allowance ≡ refused k → Ended number s allowance (refused k)
  passed : {stack : List Tree} {pairs : ℕ} → number ≡ 0 → evaluated s allowance ≡ completed stack pairs → Ended number s allowance (completed stack pairs)

pub ended : (number : ℕ) (s : List ℕ) (allowance : ℕ) → Ended number s allowance (ending_at number s allowance)
ended number s allowance = go number refl (evaluated s allowance) refl
  where
    go : (n : ℕ) → number ≡ n → (v : Evaluation Tree) → evaluated s allowance ≡ v → Ended number s allowance (tested_first n v)
    go zero z (completed stack pairs) q = passed z q
    go zero z (refused k) q = stopped z (evaluate-refused (components s) allowance (structure s) k q) q
    go (suc k) z v q = tested {k = suc k} (omega arith) z

-- ---- what the contracts name, by its definition

pub answer_is : (s : List ℕ) (demand allowance room : ℕ) → answer s demand allowance room ≡ answer_with (call_tests s room) s demand allowance
unfolding answer
answer_is s demand allowance room = refl

pub store_is : (s : List ℕ) (allowance : ℕ) (store : List ℕ) → store_after s allowance store ≡ store_with (call_tests s (length store)) s allowance store
unfolding store_after
store_is s allowance store = refl

pub speed_answer_is : (s : List ℕ) (target allowance room : ℕ)
    → speed_answer s target allowance room ≡ speed_answer_of (ending (speed_tests s target room) s allowance) (structure s) (components s) target
unfolding speed_answer
speed_answer_is s target allowance room = refl

pub speed_store_is : (s : List ℕ) (target allowance : ℕ) (store : List ℕ)
    → speed_store_after s target allowance store ≡ store_with (speed_tests s target (length store)) s allowance store
unfolding speed_store_after
speed_store_is s target allowance store = refl

pub set_answer_is : (s demands : List ℕ) (allowance room bytes : ℕ)
    → set_answer s demands allowance room bytes ≡ sheet_run_of (ending (set_tests s demands room bytes) s allowance) s
unfolding set_answer
set_answer_is s demands allowance room bytes = refl

pub set_store_is : (s demands : List ℕ) (allowance : ℕ) (store : List ℕ) (bytes : ℕ)
    → set_store_after s demands allowance store bytes ≡ store_with (set_tests s demands (length store) bytes) s allowance store
unfolding set_store_after
set_store_is s demands allowance store bytes = refl

pub shares_is : (s demands : List ℕ) (allowance room : ℕ) (shares : List ℕ)
    → shares_after s demands allowance room shares ≡ shares_by (ending (set_tests s demands room (length shares)) s allowance) demands (sheet_outcomes s) shares
unfolding shares_after
shares_is s demands allowance room shares = refl
