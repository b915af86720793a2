-- When the writer accepts a plan, and what it then leaves. Assumes nothing.
use borrow.Author.Tests.{ltb-false, le-ltb}
use mathlib.Core.Path.{◌≡◌, refl, sym, ap, ◌∙◌}
use mathlib.Core.Logic.{◌↔◌}
use mathlib.Core.Bool.{false}
use mathlib.Core.List.{List, [], ◌∷◌}
use Prim.Native.Nat.{ℕ, zero, suc, ◌≤◌, ◌<◌}
use native.Mathlib.Omega.{arith}
use lib.Dec.{ltb}
use lib.ListN.{length}
use Rattle.std.specs.Prelude.{Err}
use Rattle.theory.specs.Sums.{Every, none, more}
use Rattle.theory.specs.declared.Refusal.{Refusal}
use Rattle.theory.specs.declared.Refusal.TheVariants.{SheetRoom}
use Rattle.theory.specs.Refusals.{refusal_number, number_in, refused_when}
use Rattle.theory.proofs.Refusals.{positive, numbered, number_when, passed}
use Rattle.field.specs.Fields.{put_all}
use Rattle.field.specs.declared.Field.{Field}
use Rattle.plan.specs.declared.Plan.{Plan}
use Rattle.plan.specs.Tests.{test, first_broken, Unbroken, First}
use Rattle.plan.specs.Plan.{components_of}
use Rattle.plan.specs.Rules.{rule3, rule4, rules, Sized}
use Rattle.writing.specs.Writing.{number_of, length_of, sheet_fields, plan_tests, writer_tests, written, written_as, written_of, bytes_by, bytes_after}
use Rattle.plan.proofs.Numbers.{no_number, none_broken, accepted_by, refused_by, first_found, first_none}
use Rattle.plan.proofs.Valid.{all_held, sized}

pub number_written : (k len : ℕ) → (written k len).number ≡ k
number_written zero len = refl
number_written (suc k) len = refl

-- What is answered depends on the length only where nothing is refused.
pub written_same : (k a b : ℕ) → (k ≡ 0 → a ≡ b) → written k a ≡ written k b
written_same zero a b h = rw (h refl)
written_same (suc k) a b h = refl

pub record Accepted (p : Plan) (room : ℕ) : Type 0 where
  pub three : rule3 p.count ≡ false
  pub four : rule4 (components_of p) ≡ false
  pub others : first_broken (rules p) ≡ 0
  pub fits : length_of p ≤ room

module _ (p : Plan) (room : ℕ) where
  pub number_accepts : number_of p room ≡ 0 → Accepted p room
  number_accepts e = go (no_number 15 (writer_tests p room) refl e)
    where
      go : Every Unbroken (writer_tests p room) → Accepted p room
      go (more e₃ (more e₄ (more e₆ (more e₇ (more e₈ (more e₉ (more e₁₀ (more e₁₁ (more e₁₅ none))))))))) =
          record {
            three = e₃;
            four = e₄;
            others = none_broken (more e₆ (more e₇ (more e₈ (more e₉ (more e₁₀ (more e₁₁ none))))));
            fits = ltb-false room (length_of p) e₁₅;
          }

  pub accepts_number : Accepted p room → number_of p room ≡ 0
  accepts_number a =
      rw (a.three, a.four)
      (first_none (test 15 (ltb room (length_of p)) ∷ []) (no_number 11 (rules p) refl a.others) ∙ rw (le-ltb room (length_of p) a.fits))

  pub written_number : (written_of p room).number ≡ number_of p room
  unfolding written_of
  written_number = number_written (number_of p room) (length_of p)

  -- The tests decide: 0 exactly when none is broken, and otherwise the number of the first that is.
  pub written_accepted : ((written_of p room).number ≡ 0) ↔ Every Unbroken (writer_tests p room)
  written_accepted = rw written_number (accepted_by 15 (writer_tests p room) refl)

  pub written_refused_by : (k : ℕ) → 0 < k → ((written_of p room).number ≡ k) ↔ First (writer_tests p room) k
  written_refused_by k h = rw written_number (refused_by (writer_tests p room) k h)

  pub written_length : number_of p room ≡ 0 → written_of p room ≡ record { number = 0; length = length_of p }
  unfolding written_of
  written_length e = rw e

-- A number other than 0 is answered with length 0, and nothing is written.
pub refused_length : (p : Plan) (room : ℕ) → 0 < number_of p room → (written_of p room).length ≡ 0
unfolding written_of
refused_length p room = go (number_of p room)
  where
    go : (k : ℕ) → 0 < k → (written k (length_of p)).length ≡ 0
    go zero h = absurd (omega arith)
    go (suc k) h = refl

pub bytes_refused : (k : ℕ) (s : List ℕ) (fs : List Field) → (k ≡ 0 → ⊥) → bytes_by k s fs ≡ s
bytes_refused zero s fs h = absurd (h refl)
bytes_refused (suc k) s fs h = refl

pub refused_stays : (p : Plan) (s : List ℕ) → 0 < number_of p (length s) → bytes_after p s ≡ s
unfolding bytes_after
refused_stays p s h = bytes_refused (number_of p (length s)) s (sheet_fields p) (λ z. omega arith)

pub accepted_bytes : (p : Plan) (s : List ℕ) → number_of p (length s) ≡ 0 → bytes_after p s ≡ put_all s 0 (sheet_fields p)
unfolding bytes_after
accepted_bytes p s e = rw e

-- ---- the tests one after the other, and the answer that they come to

module _ (p : Plan) where
  -- Where the plan's own rules are kept, it has a size, and 15 decides.
  module _ (e : 0 ≡ first_broken (plan_tests p)) where
    kept : Every Unbroken (plan_tests p)
    kept = no_number 11 (plan_tests p) refl (sym e)

    pub is_sized : Sized p
    is_sized = go kept
      where
        go : Every Unbroken (plan_tests p) → Sized p
        go (more three (more four others)) = sized p three four

    pub room_decides : (room len : ℕ) → len ≡ length_of p → number_in (refused_when SheetRoom (ltb room len)) ≡ number_of p room
    room_decides room len l =
        number_when SheetRoom (ltb room len) ∙ rw l (sym (first_none (test 15 (ltb room (length_of p)) ∷ []) kept))

  module _ (room : ℕ) where
    -- A number of the plan's own is the answer.
    pub plan_decides : (r : Refusal) → refusal_number r ≡ first_broken (plan_tests p) → refusal_number r ≡ number_of p room
    plan_decides r e = e ∙ sym (first_found (plan_tests p) (test 15 (ltb room (length_of p)) ∷ []) (λ z. numbered r (e ∙ z)))

    -- The answer to that and to 15.
    pub answered_refused : (r : Refusal) → refusal_number r ≡ number_of p room → written_as (Err r) ≡ written_of p room
    unfolding written_of
    answered_refused r e = written_same (refusal_number r) 0 (length_of p) (λ z. absurd (numbered r z)) ∙ ap (λ k. written k (length_of p)) e

-- What the tests of a plan go by, and those of a plan and a buffer.
pub ruleset kept_tests = (passed, all_held)

pub ruleset deciding_tests = (answered_refused, plan_decides, room_decides, written_length, refused_stays, accepted_bytes, positive)
