-- A store that is longer than the plan needs: the statement `LongerStore` of specs/Demands.antt holds. Assumes nothing.
use Prim.Native.Nat.{ℕ, ◌≤◌}
use mathlib.Core.Path.{◌≡◌, refl, sym, ap, ◌∙◌}
use mathlib.Core.Bool.{Bool, true, false, cond}
use mathlib.Core.List.{List, [], ◌∷◌, ◌++◌, append_assoc}
use native.Mathlib.Omega.{arith}
use lib.ListN.{length, drop, length-append}
use lib.Seq.{drop-append-le}
use borrow.Author.Tests.{le-ltb}
use Rattle.theory.specs.Structure.{Tree}
use Rattle.theory.specs.Evaluation.{Evaluation, completed, refused}
use Rattle.plan.specs.Tests.{Test, test}
use Rattle.reading.specs.Reading.{sheet_tests}
use Rattle.run.specs.Run.{needed, cleared}
use Rattle.queries.specs.Speed.{target_tests}
use Rattle.queries.specs.Shares.{demand_tests}
use Rattle.evaluate.specs.Answer.{plan_of, structure, components, sheet_outcomes, sheet_list, call_tests, ending, answer_with, answer}
use Rattle.evaluate.specs.Store.{is_late, store_by, store_with, store_after}
use Rattle.evaluate.specs.SheetRun.{sheet_run_of}
use Rattle.evaluate.specs.Speed.{speed_answer_of, speed_answer, speed_store_after}
use Rattle.evaluate.specs.Set.{set_answer, set_store_after, shares_by, shares_after}
use Rattle.evaluate.specs.Demands.{longer, LongerStore}

module _ (s : List ℕ) (allowance : ℕ) (store further : List ℕ) (enough : needed (plan_of s) ≤ length store) where
  abbrev after : List ℕ
  after = longer s allowance store further enough

  -- 12 is broken by neither.
  tests_same : call_tests s (length after) ≡ call_tests s (length store)
  tests_same =
      ap (λ (b : Bool). sheet_tests s ++ (test 12 b ∷ []))
      (le-ltb (length after) (needed (plan_of s)) (omega (arith, length-append store further)) ∙ sym (le-ltb (length store) (needed (plan_of s)) enough))

  behind : drop (needed (plan_of s)) after ≡ drop (needed (plan_of s)) store ++ further
  behind = drop-append-le (needed (plan_of s)) store further enough

  stored : (end : Evaluation Tree) → store_by end (needed (plan_of s)) (sheet_list s) after ≡ store_by end (needed (plan_of s)) (sheet_list s) store ++ further
  stored (completed stack pairs) = rw behind (simp append_assoc)
  stored (refused number) = go (is_late number)
    where
      go : (late : Bool) → cond late (cleared (needed (plan_of s)) after) after ≡ cond late (cleared (needed (plan_of s)) store) store ++ further
      go true = rw behind (simp append_assoc)
      go false = refl

  -- So it is with further tests, too.
  with_tests : (tests : List Test → List Test)
      → store_with (tests (call_tests s (length after))) s allowance after ≡ store_with (tests (call_tests s (length store))) s allowance store ++ further
  with_tests tests =
      ap (λ (t : List Test). store_with (tests t) s allowance after) tests_same ∙ stored (ending (tests (call_tests s (length store))) s allowance)

  pub longer_store : LongerStore s allowance store further enough
  unfolding answer store_after speed_answer speed_store_after set_answer set_store_after shares_after
  longer_store = record {
    same_answer = λ demand. ap (λ (t : List Test). answer_with t s demand allowance) tests_same;
    same_store = with_tests (λ t. t);
    same_speed = λ target. ap (λ (t : List Test). speed_answer_of (ending (t ++ target_tests target) s allowance) (structure s) (components s) target) tests_same;
    same_speed_store = λ target. with_tests (λ t. t ++ target_tests target);
    same_set = λ demands bytes. ap (λ (t : List Test). sheet_run_of (ending (t ++ demand_tests (length demands) bytes) s allowance) s) tests_same;
    same_set_store = λ demands bytes. with_tests (λ t. t ++ demand_tests (length demands) bytes);
    same_shares = λ demands shares.
        ap (λ (t : List Test). shares_by (ending (t ++ demand_tests (length demands) (length shares)) s allowance) demands (sheet_outcomes s) shares) tests_same;
  }
