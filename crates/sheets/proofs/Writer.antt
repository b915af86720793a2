-- The writer for C hosts, by which of its buffers are too short: `Write` and `UnusedIgnored` of specs/Sheets.antt. Assumes nothing.
use Prim.Native.Nat.{ℕ, zero, suc, ◌+◌, ◌≤◌, ◌<◌}
use mathlib.Core.Path.{◌≡◌, refl, sym, ap, ◌∙◌}
use mathlib.Core.Logic.{◌↔◌}
use mathlib.Core.Bool.{Bool, true, false, cond, true≢false}
use mathlib.Core.List.{List, [], ◌∷◌, ◌++◌}
use native.Mathlib.Decide.{ℕ_discrete}
use native.Mathlib.Omega.{arith}
use lib.Dec.{ltb, eqb}
use lib.ListN.{length, drop, replicate, length-replicate}
use lib.Seq.{drop_at}
use borrow.Author.Tests.{ne_eqb, lt-ltb, le-ltb, ltb-true, ltb-false}
use Rattle.std.specs.Prelude.{Result, Ok, Err}
use Rattle.std.specs.Result.{result_unwrap_or}
use Rattle.theory.specs.Sums.{Every, more}
use Rattle.theory.specs.declared.Refusal.{Refusal}
use Rattle.theory.specs.declared.Refusal.TheVariants.{Store}
use Rattle.theory.specs.Refusals.{refusal_number, number_in, refused_when}
use Rattle.theory.proofs.Refusals.{numbered, above_zero}
use Rattle.theory.proofs.Every.{every_split}
use Rattle.numbers.specs.Numbers.{big_endian}
use Rattle.plan.specs.declared.Plan.{Plan}
use Rattle.plan.specs.Plan.{cleaned_plan}
use Rattle.plan.specs.Tests.{Test, test, first_broken, Unbroken, First}
use Rattle.plan.proofs.Numbers.{no_number, accepted_by, refused_by, number_never, first_found, first_none, first_then}
use Rattle.writing.specs.Writing.{Written, length_of, sheet_fields, plan_tests, writer_tests, written_as, written_of, bytes_after}
use Rattle.writing.proofs.Accepted.{written_number, bytes_refused}
use Rattle.writing.proofs.Cleaned.{ignores_unused}
use Rattle.writing.proofs.Theorems.{written_sheet, written_longest, rest_kept, nothing_written as refused-writes}
use Rattle.wire.specs.Wire.{plan_bytes, decode_plan}
use Rattle.sheets.specs.Sheets.{length_bytes, write_call_tests, write_number, sheet_after, length_after, Write}
use Rattle.sheets.specs.Sheets.{WrittenAlike, UnusedIgnored}
use Rattle.numbers.proofs.Numbers.{length-big_endian, read_front}

zero_bytes : big_endian length_bytes 0 ≡ replicate length_bytes 0
unfolding big_endian
zero_bytes = refl

-- The number and the length of what was written.
number_is : (r : Result ℕ Refusal) → number_in r ≡ (written_as r).number
number_is (Ok n) = refl
number_is (Err e) = rw (above_zero e).1 refl

length_is : (r : Result ℕ Refusal) → result_unwrap_or r 0 ≡ (written_as r).length
length_is (Ok n) = refl
length_is (Err e) = rw (above_zero e).1 refl

module _ (plan sheet answer : List ℕ) where
  abbrev p : Plan
  p = decode_plan plan

  abbrev last : Test
  last = test 15 (ltb (length sheet) (length_of p))

  -- A plan of too few bytes: 12, and nothing is written.
  pub plan_short : length plan < plan_bytes
      → (write_number plan sheet answer ≡ 12) × (sheet_after plan sheet answer ≡ sheet) × (length_after plan sheet answer ≡ answer)
  unfolding write_number sheet_after length_after
  plan_short h = rw (lt-ltb (length plan) plan_bytes h) (refl, refl, refl)

  -- An answer buffer that is too short: nothing is written, and 12 comes behind the plan's own tests.
  pub answer_short : plan_bytes ≤ length plan → length answer < length_bytes
      → (write_number plan sheet answer ≡ cond (eqb (first_broken (plan_tests p)) 0) 12 (first_broken (plan_tests p)))
      × (sheet_after plan sheet answer ≡ sheet) × (length_after plan sheet answer ≡ answer)
  unfolding write_number sheet_after length_after
  answer_short h k =
      rw (le-ltb (length plan) plan_bytes h, lt-ltb (length answer) length_bytes k) (
        sym (first_then 11 (plan_tests p) (test 12 true ∷ last ∷ []) refl),
        bytes_refused (first_broken (plan_tests p ++ (test 12 true ∷ last ∷ []))) sheet (sheet_fields p)
            (λ z. true≢false (some_broken (no_number 15 (plan_tests p ++ (test 12 true ∷ last ∷ [])) refl z))),
        refl,
      )
    where
      some_broken : Every Unbroken (plan_tests p ++ (test 12 true ∷ last ∷ [])) → true ≡ false
      some_broken u = go (every_split (plan_tests p) u).1
        where
          go : Every Unbroken (test 12 true ∷ last ∷ []) → true ≡ false
          go (more e es) = e

  -- Both long enough: the writer's own answer.
  pub long_enough : plan_bytes ≤ length plan → length_bytes ≤ length answer → (write_number plan sheet answer ≡ (written_of p (length sheet)).number)
      × (sheet_after plan sheet answer ≡ bytes_after p sheet)
      × (length_after plan sheet answer ≡ big_endian length_bytes (written_of p (length sheet)).length ++ drop length_bytes answer)
  unfolding write_number sheet_after length_after written_of bytes_after
  long_enough h k =
      rw (le-ltb (length plan) plan_bytes h, le-ltb (length answer) length_bytes k) (sym (written_number p (length sheet)), refl, refl)

  -- What comes of a plan of too few bytes.
  pub plan_twelve : (r : Refusal) → Err r ≡ refused_when Store (ltb (length plan) plan_bytes) → refusal_number r ≡ write_number plan sheet answer
  unfolding write_number
  plan_twelve r = twelve (ltb (length plan) plan_bytes) _
    where
      twelve : (b : Bool) (n : ℕ) → Err r ≡ refused_when Store b → refusal_number r ≡ cond b 12 n
      twelve true n e = cc
      twelve false n e = cc

  module _ (h : length plan < plan_bytes) where
    pub plan_sheet : sheet ≡ sheet_after plan sheet answer
    plan_sheet = sym (plan_short h).1

    pub plan_answer : answer ≡ length_after plan sheet answer
    plan_answer = sym (plan_short h).2

  -- What comes of the writer's answer.
  module _ (h : plan_bytes ≤ length plan) where
    pub plan_refuses : (r : Refusal) → refusal_number r ≡ first_broken (plan_tests p) → refusal_number r ≡ write_number plan sheet answer
    unfolding write_number
    plan_refuses r e =
        rw (le-ltb (length plan) plan_bytes h)
        (e ∙ sym (first_found (plan_tests p) (test 12 (ltb (length answer) length_bytes) ∷ last ∷ []) (λ z. numbered r (e ∙ z))))

    module _ (k : length answer < length_bytes) where
      pub answer_twelve : first_broken (plan_tests p) ≡ 0 → 12 ≡ write_number plan sheet answer
      answer_twelve e = sym ((answer_short h k).0 ∙ rw e refl)

      pub answer_sheet : sheet ≡ sheet_after plan sheet answer
      answer_sheet = sym (answer_short h k).1

      pub answer_answer : answer ≡ length_after plan sheet answer
      answer_answer = sym (answer_short h k).2

    module _ (k : length_bytes ≤ length answer) where
      pub sheet_refuses : (r : Refusal) → written_as (Err r) ≡ written_of p (length sheet) → refusal_number r ≡ write_number plan sheet answer
      sheet_refuses r e = number_is (Err r) ∙ ap (λ (x : Written). x.number) e ∙ sym (long_enough h k).0

      pub sheet_accepts : (written_of p (length sheet)).number ≡ 0 → 0 ≡ write_number plan sheet answer
      sheet_accepts e = sym ((long_enough h k).0 ∙ e)

      pub sheet_written : bytes_after p sheet ≡ sheet_after plan sheet answer
      sheet_written = sym (long_enough h k).1

      pub length_written : (r : Result ℕ Refusal) → written_as r ≡ written_of p (length sheet)
          → big_endian length_bytes (result_unwrap_or r 0) ++ drop length_bytes answer ≡ length_after plan sheet answer
      length_written r e = sym ((long_enough h k).2 ∙ rw (← e, ← length_is r) refl)

  -- One of the three is the case.
  by_lengths : {P : Type 0} → (length plan < plan_bytes → P) → (plan_bytes ≤ length plan → length answer < length_bytes → P)
      → (plan_bytes ≤ length plan → length_bytes ≤ length answer → P) → P
  by_lengths {P} f g h = go (ltb (length plan) plan_bytes) (ltb (length answer) length_bytes) refl refl
    where
      go : (a b : Bool) → ltb (length plan) plan_bytes ≡ a → ltb (length answer) length_bytes ≡ b → P
      go true b d e = f (ltb-true (length plan) plan_bytes d)
      go false true d e = g (ltb-false (length plan) plan_bytes d) (ltb-true (length answer) length_bytes e)
      go false false d e = h (ltb-false (length plan) plan_bytes d) (ltb-false (length answer) length_bytes e)

  number_accepted : (write_number plan sheet answer ≡ 0) ↔ Every Unbroken (write_call_tests plan sheet answer)
  unfolding write_number
  number_accepted = accepted_by 15 (write_call_tests plan sheet answer) refl

  number_refused : (k : ℕ) → 0 < k → (write_number plan sheet answer ≡ k) ↔ First (write_call_tests plan sheet answer) k
  unfolding write_number
  number_refused = refused_by (write_call_tests plan sheet answer)

  nothing_written : (k : ℕ) → 0 < k → write_number plan sheet answer ≡ k → sheet_after plan sheet answer ≡ sheet
  unfolding write_number sheet_after
  nothing_written k h e = bytes_refused (first_broken (write_call_tests plan sheet answer)) sheet (sheet_fields p) (λ z. omega (arith, z, e))

  -- Where the plan is accepted, both are long enough.
  lengths : write_number plan sheet answer ≡ 0 → (plan_bytes ≤ length plan) × (length_bytes ≤ length answer)
  lengths e = go (number_accepted.0 e)
    where
      behind : Every Unbroken (test 12 (ltb (length answer) length_bytes) ∷ last ∷ []) → length_bytes ≤ length answer
      behind (more e es) = ltb-false (length answer) length_bytes e

      go : Every Unbroken (write_call_tests plan sheet answer) → (plan_bytes ≤ length plan) × (length_bytes ≤ length answer)
      go (more e es) = (ltb-false (length plan) plan_bytes e, behind (every_split (plan_tests p) es).1)

  pub accepted_writes : write_number plan sheet answer ≡ 0
      → ((written_of p (length sheet)).number ≡ 0) × (sheet_after plan sheet answer ≡ bytes_after p sheet)
      × (length_after plan sheet answer ≡ big_endian length_bytes (length_of p) ++ drop length_bytes answer)
  accepted_writes e =
      let (h, k) = lengths e in
      let w = long_enough h k in
      let z : (written_of p (length sheet)).number ≡ 0 = sym w.0 ∙ e in
      (z, w.1, w.2 ∙ ap (λ (x : Written). big_endian length_bytes x.length ++ drop length_bytes answer) (written_sheet p (length sheet) z))

  longest : write_number plan sheet answer ≡ 0 → length_of p ≤ 224
  longest e =
      let z = (accepted_writes e).0 in
      omega (arith, ap (λ (x : Written). x.length) (written_sheet p (length sheet) z), written_longest p (length sheet) z)

  -- The plan's own tests decide, and none of them has the number 15.
  by_fifteen : (m : ℕ) → m ≤ 12 → (a : Bool) → cond a m (first_broken (plan_tests p)) ≡ 15 → ⊥
  by_fifteen m h true e = omega (arith, e)
  by_fifteen m h false e = true≢false (ap (λ k. eqb k 15) (sym e) ∙ number_never (λ k. eqb k 15) refl (plan_tests p) refl)

  -- A plan that keeps the rules fits 224 bytes.
  on_fifteen : (written_of p (length sheet)).number ≡ 15 → length sheet < 224
  on_fifteen e = elim (ℕ_discrete (first_broken (plan_tests p)) 0) [
    | no z ↦ absurd (by_fifteen 12 (omega arith) false (sym (first_found (plan_tests p) (last ∷ []) z) ∙ (sym (written_number p (length sheet)) ∙ e)))
    | yes z ↦
        let kept = no_number 11 (plan_tests p) refl z in
        let room : List ℕ = replicate (length_of p) 0 in
        let fits : (written_of p (length room)).number ≡ 0 =
        written_number p (length room) ∙ (first_none (test 15 (ltb (length room) (length_of p)) ∷ []) kept
        ∙ rw (le-ltb (length room) (length_of p) (omega (arith, length-replicate {A = ℕ} (length_of p) 0)))) in
        let most : length_of p ≤ 224 = omega (arith, ap (λ (x : Written). x.length) (written_sheet p (length room) fits), written_longest p (length room) fits) in
        let behind : first_broken (last ∷ []) ≡ 15 = sym (first_none (last ∷ []) kept) ∙ (sym (written_number p (length sheet)) ∙ e) in
        short (ltb (length sheet) (length_of p)) refl behind most
  ]
    where
      short : (c : Bool) → ltb (length sheet) (length_of p) ≡ c → cond {A = ℕ} c 15 0 ≡ 15 → length_of p ≤ 224 → length sheet < 224
      short true h e l = omega (arith, ltb-true (length sheet) (length_of p) h)
      short false h e l = omega (arith, e)

  pub write : Write plan sheet answer
  write = record {
    accepted = number_accepted;
    refused_by = number_refused;
    nothing_written = nothing_written;
    twelve = λ e.
        by_lengths (λ h. (plan_short h).2) (λ h k. (answer_short h k).2)
        (λ h k. absurd (true≢false (ap (λ n. eqb n 12) (sym e ∙ ((long_enough h k).0 ∙ written_number p (length sheet)))
        ∙ number_never (λ n. eqb n 12) refl (writer_tests p (length sheet)) refl)));
    length_zero = λ k h n e l.
        by_lengths (λ g. absurd (n (sym e ∙ (plan_short g).0))) (λ g m. absurd (omega arith))
        (λ g m.
        let w = long_enough g m in
        w.2 ∙ ap (λ bs. bs ++ drop length_bytes answer) (ap (big_endian length_bytes) (refused-writes p sheet k h (sym w.0 ∙ e)).0 ∙ zero_bytes));
    short_kept = λ l. by_lengths (λ h. (plan_short h).2) (λ h k. (answer_short h k).2) (λ h k. absurd (omega arith));
    length_read = λ e. rw (accepted_writes e).2 (read_front length_bytes (length_of p) (drop length_bytes answer) (omega (arith, longest e)));
    sheet_rest = λ e.
        let w = accepted_writes e in
        rw w.1 (rw (ap (λ (x : Written). x.length) (written_sheet p (length sheet) w.0)) at (rest_kept p sheet w.0));
    answer_rest =
        by_lengths (λ h. ap (drop length_bytes) (plan_short h).2) (λ h k. ap (drop length_bytes) (answer_short h k).2)
        (λ h k. ap (drop length_bytes) (long_enough h k).2 ∙ drop_at (big_endian length_bytes _) (drop length_bytes answer) length_bytes (length-big_endian length_bytes _));
    as_written = λ h k. let w = long_enough h k in (w.0, w.1);
    longest = longest;
    fifteen = λ e.
        by_lengths (λ h. absurd (true≢false (ap (λ n. eqb n 15) (sym e ∙ (plan_short h).0))))
        (λ h k. absurd (by_fifteen 12 (omega arith) (eqb (first_broken (plan_tests p)) 0) (sym (answer_short h k).0 ∙ e)))
        (λ h k. on_fifteen (sym (long_enough h k).0 ∙ e));
  }

-- What the writer goes by.
pub ruleset write_steps = (plan_twelve, plan_sheet, plan_answer, answer_twelve, answer_sheet, answer_answer, sheet_refuses, sheet_accepts, sheet_written, length_written)

-- ---- unused places

alike : (p q : Plan) (buffer : List ℕ) → cleaned_plan p ≡ cleaned_plan q
    → (written_of p (length buffer) ≡ written_of q (length buffer)) × (bytes_after p buffer ≡ bytes_after q buffer)
alike p q buffer e =
    let f = ignores_unused p buffer in
    let g = ignores_unused q buffer in
    (sym f.answer ∙ (ap (λ (x : Plan). written_of x (length buffer)) e ∙ g.answer), sym f.bytes ∙ (ap (λ (x : Plan). bytes_after x buffer) e ∙ g.bytes))

zero_else : (n : ℕ) → cond (eqb n 0) 0 n ≡ n
zero_else zero = refl
zero_else (suc n) = rw (ne_eqb (suc n) 0 (λ e. omega (arith, e)))

-- With room for the sheet the plan's own tests decide alone.
alone : (p : Plan) (room : ℕ) → length_of p ≤ room → (written_of p room).number ≡ first_broken (plan_tests p)
alone p room h =
    written_number p room
    ∙ rw (le-ltb room (length_of p) h) (sym (first_then 11 (plan_tests p) (test 15 false ∷ []) refl) ∙ zero_else (first_broken (plan_tests p)))

rules_alike : (p q : Plan) → cleaned_plan p ≡ cleaned_plan q → first_broken (plan_tests p) ≡ first_broken (plan_tests q)
rules_alike p q e =
    let buffer : List ℕ = replicate (length_of p + length_of q) 0 in
    let l : length buffer ≡ length_of p + length_of q = length-replicate {A = ℕ} (length_of p + length_of q) 0 in
    sym (alone p (length buffer) (omega (arith, l)))
    ∙ (ap (λ (x : Written). x.number) (alike p q buffer e).0 ∙ alone q (length buffer) (omega (arith, l)))

pub unused_ignored : UnusedIgnored
unused_ignored plan other sheet answer h k e = go (ltb (length answer) length_bytes) refl
  where
    go : (b : Bool) → ltb (length answer) length_bytes ≡ b → WrittenAlike plan other sheet answer
    go true f =
        let l = ltb-true (length answer) length_bytes f in
        let w = answer_short plan sheet answer h l in
        let v = answer_short other sheet answer k l in
        record {
          number = v.0 ∙ (ap (λ n. cond (eqb n 0) 12 n) (rules_alike (decode_plan other) (decode_plan plan) e) ∙ sym w.0);
          sheet_same = v.1 ∙ sym w.1;
          length_same = v.2 ∙ sym w.2;
        }
    go false f =
        let l = ltb-false (length answer) length_bytes f in
        let w = long_enough plan sheet answer h l in
        let v = long_enough other sheet answer k l in
        let a = alike (decode_plan other) (decode_plan plan) sheet e in
        record {
          number = v.0 ∙ (ap (λ (x : Written). x.number) a.0 ∙ sym w.0);
          sheet_same = v.1 ∙ (a.1 ∙ sym w.1);
          length_same = v.2 ∙ (ap (λ (x : Written). big_endian length_bytes x.length ++ drop length_bytes answer) a.0 ∙ sym w.2);
        }
