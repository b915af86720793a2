-- The call for a speed: the statement `SpeedMet` of specs/Demands.antt holds. Assumes nothing.
use Prim.Native.Nat.{ℕ, ◌*◌, ◌≤◌, ◌<◌}
use mathlib.Core.Path.{◌≡◌, refl, sym, ap, ◌∙◌}
use mathlib.Core.Bool.{Bool, true, false, cond, false≢true}
use mathlib.Core.Logic.{◌⊎◌, ◌↔◌}
use mathlib.Core.List.{List}
use native.Mathlib.Nat.{mul-pos, mul-le-mul_right}
use native.Mathlib.Decide.{ℕ_discrete}
use native.Mathlib.Omega.{arith}
use lib.ListN.{length}
use Rattle.theory.specs.Limits.{top_speed, thousandths}
use Rattle.theory.specs.Focal.{weights}
use Rattle.theory.specs.Masses.{total}
use Rattle.theory.specs.Structure.{Tree}
use Rattle.theory.specs.Speed.{GreatestDemand, speed_for}
use Rattle.theory.specs.Evaluation.{Evaluation, refused}
use Rattle.theory.proofs.Every.{every_map}
use Rattle.theory.proofs.Totals.{total_positive}
use Rattle.theory.proofs.Speed.{speed_most, speed_greatest, greatest_one}
use Rattle.theory.specs.Sums.{Every}
use Rattle.plan.specs.Tests.{Test, first_broken, outside, Unbroken}
use Rattle.plan.proofs.Tests.{beyond}
use Rattle.queries.specs.Speed.{target_tests}
use Rattle.evaluate.specs.Answer.{Answer, components, structure, sheet_list, call_tests, answer_of, answer}
use Rattle.evaluate.specs.Speed.{SpeedAnswer, speed_tests, speed_by, speed_answer_of, speed_store_after}
use Rattle.evaluate.specs.Store.{store_after}
use Rattle.evaluate.specs.SheetRun.{ending_at, store_at, without_shares}
use Rattle.evaluate.specs.Demands.{speed_answered, belief_at, SpeedMet}
use Rattle.evaluate.proofs.Numbers.{speed_numbered, answer_is, store_is, speed_answer_is, speed_store_is}
use Rattle.evaluate.proofs.Finish.{drive_fits, target_inside}
use Rattle.evaluate.proofs.Demands.{end_of, Called, first_of, refuses, accepts, AcceptedCall, valid, number-own, same_number, run_by, demand_2, Fits64, refusal_fits, answer_fits}

-- The greatest demand, of equal beliefs over an equal whole.
greatest_of : {target v w : ℕ} {f g : ℕ → ℕ} {speed : ℕ} → v ≡ w → ((d : ℕ) → f d ≡ g d) → GreatestDemand target v f speed → GreatestDemand target w g speed
greatest_of {target} {v} {w} {f} {g} {speed} e p q =
    record { met = rw (← e, ← p speed) q.met; greatest = λ d m. q.greatest d (rw (e, p d) m) }

module _ (s : List ℕ) (target allowance : ℕ) (store : List ℕ) where
  abbrev room : ℕ
  room = length store

  abbrev own : List Test
  own = target_tests target

  abbrev end : Evaluation Tree
  end = end_of s allowance store own

  abbrev here : SpeedAnswer
  here = speed_answered s target allowance store

  -- What it ends in says what is answered: the speed, and the other answers.
  pub answer_by : {v : Evaluation Tree} → end ≡ v → here ≡ speed_answer_of v (structure s) (components s) target
  answer_by e =
      speed_answer_is s target allowance room ∙ ap (λ (v : Evaluation Tree). speed_answer_of v (structure s) (components s) target) e

  speed_is : {v : Evaluation Tree} → end ≡ v → here.speed ≡ speed_by v target (total (components s)) (sheet_list s)
  speed_is e = ap (λ (p : SpeedAnswer). p.speed) (answer_by e)

  other_is : {v : Evaluation Tree} → end ≡ v → here.answer ≡ answer_of v (structure s) (components s) here.speed
  other_is {v} e = ap (λ (p : SpeedAnswer). p.answer) (answer_by e) ∙ ap (answer_of v (structure s) (components s)) (sym (speed_is e))

  called : Called s allowance store own (without_shares here.answer) (speed_store_after s target allowance store)
  called = record {
    numbers = speed_numbered s target room;
    run_is = ap without_shares (other_is refl) ∙ run_by end s here.speed;
    stored = speed_store_is s target allowance store;
  }

  refused_here : (k : ℕ) → 0 < k → here.answer.number ≡ k → end ≡ refused k
  refused_here = refuses s allowance store own called

  -- Its own test has the number 16 where it is broken.
  own_broken : (b : Bool) → (◌≡◌ {A = ℕ} (cond b 16 0) 16) ↔ (b ≡ true)
  own_broken true = (λ e. refl, λ e. refl)
  own_broken false = (λ e. absurd (omega arith), λ e. absurd (false≢true e))

  own_only : (b : Bool) (k : ℕ) → 0 < k → cond b 16 0 ≡ k → k ≡ 16
  own_only true k h e = sym e
  own_only false k h e = absurd (omega arith)

  same_tests : (here.answer.number ≡ 16 → ⊥) → first_broken (speed_tests s target room) ≡ first_broken (call_tests s room)
  same_tests h = same_number s allowance store own called (λ k l f e. h (e ∙ own_only (outside 1 thousandths target) k l f))

  as_ordinary : (here.answer.number ≡ 16 → ⊥) → here.answer ≡ answer s here.speed allowance room
  as_ordinary h =
      other_is refl ∙ (ap (λ (n : ℕ). answer_of (ending_at n s allowance) (structure s) (components s) here.speed) (same_tests h)
      ∙ sym (answer_is s here.speed allowance room))

  store_as_ordinary : (here.answer.number ≡ 16 → ⊥) → speed_store_after s target allowance store ≡ store_after s allowance store
  store_as_ordinary h =
      speed_store_is s target allowance store ∙ (ap (λ (n : ℕ). store_at n s allowance store) (same_tests h) ∙ sym (store_is s allowance store))

  -- An accepted call.
  module _ (e : here.answer.number ≡ 0) where
    not_16 : here.answer.number ≡ 16 → ⊥
    not_16 f = omega arith

    accepted_here : AcceptedCall s allowance store own (without_shares here.answer) (speed_store_after s target allowance store)
    accepted_here = accepts s allowance store own called e

    list_speed : here.speed ≡ speed_for target (total (components s)) (sheet_list s)
    list_speed = speed_is accepted_here.ends

    greatest : GreatestDemand target here.answer.total (belief_at s target allowance store) here.speed
    greatest =
        let second = demand_2 s here.speed allowance store (ap (λ (a : Answer). a.number) (sym (as_ordinary not_16)) ∙ e) in
        let whole : here.answer.total ≡ total (components s) = ap (λ (a : Answer). a.total) (as_ordinary not_16) ∙ second.total_is in
        let sum : weights (sheet_list s) ≡ total (components s) = second.list_weights ∙ second.total_is in
        let inside = target_inside accepted_here.own_unbroken in
        let above : 0 < target * total (components s) = mul-pos inside.0 (total_positive (every_map (λ c t. t.0) (valid accepted_here).totals)) in
        rw list_speed
        (greatest_of (sym whole) second.list_belief
        (speed_greatest target (total (components s)) above second.list_ordered (rw sum (mul-le-mul_right (total (components s)) inside.1))))

  sixteen : (here.answer.number ≡ 16) ↔ (Every Unbroken (call_tests s room) × ((target < 1) ⊎ (thousandths < target)))
  sixteen =
      let own = number-own s allowance store own called 16 (omega arith) refl refl in
      let b = own_broken (outside 1 thousandths target) in
      let o = beyond 1 thousandths target in
      (λ e. ((own.0 e).0, o.0 (b.0 (own.0 e).1)), λ (u, h). own.1 (u, b.1 (o.1 h)))

  speed_small : here.speed ≤ top_speed
  speed_small = elim (ℕ_discrete here.answer.number 0) [
    | yes e ↦
        let most = speed_most target (total (components s)) top_speed (every_map (λ f h. omega (arith, h.low_high, h.below)) (drive_fits (valid (accepted_here e))).speeds) in
        omega (arith, list_speed e, most)
    | no n ↦ omega (arith, speed_is (refused_here here.answer.number (omega arith) refl))
  ]

  pub speed_met : SpeedMet s target allowance store
  speed_met = record {
    first = first_of s allowance store own called;
    sixteen = sixteen;
    zeros = λ k h e. other_is (refused_here k h e);
    speed_most = speed_small;
    speed_zero = λ k h e. speed_is (refused_here k h e);
    as_ordinary = as_ordinary;
    store_as_ordinary = store_as_ordinary;
    greatest = greatest;
    no_other = λ e v p. greatest_one target here.answer.total p (greatest e);
  }

  -- ---- The other answers fit 64 bits.

  pub speed_answer_fits : Fits64 allowance here.answer
  speed_answer_fits = elim (ℕ_discrete here.answer.number 16) [
    | yes e ↦ rw (other_is (refused_here 16 (omega arith) e)) (refusal_fits allowance 16)
    | no n ↦ rw (as_ordinary n) (answer_fits s here.speed allowance store)
  ]
