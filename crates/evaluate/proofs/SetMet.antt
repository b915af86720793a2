-- The call for a set of demands: the statement `SetMet` of specs/Demands.antt holds. Assumes nothing.
use Prim.Native.Nat.{ℕ, ◌+◌, ◌*◌, ◌^◌, ◌≤◌, ◌<◌}
use mathlib.Core.Path.{◌≡◌, refl, sym, ap, ◌∙◌}
use mathlib.Core.Bool.{Bool, true, false, cond, false≢true}
use mathlib.Core.Logic.{◌⊎◌, inl, inr, ◌↔◌}
use mathlib.Core.List.{List, ◌++◌}
use native.Mathlib.Nat.{add-zero}
use native.Mathlib.Decide.{ℕ_discrete}
use native.Mathlib.Omega.{arith}
use lib.Dec.{ltb, leb}
use lib.ListN.{length, drop, get_or}
use lib.Seq.{drop_at}
use borrow.Author.Tests.{lt-ltb, ltb-true}
use Rattle.theory.specs.Limits.{most_demands}
use Rattle.theory.specs.Sums.{Every}
use Rattle.theory.specs.Structure.{Tree}
use Rattle.theory.specs.Choices.{weight_where, belief, plausibility}
use Rattle.theory.specs.Evaluation.{Evaluation, completed, refused}
use Rattle.theory.proofs.Collect.{where_le, where_collect}
use Rattle.numbers.specs.Numbers.{number_at}
use Rattle.plan.specs.Tests.{first_broken, outside, Unbroken}
use Rattle.plan.proofs.Tests.{within, beyond, not_outside}
use Rattle.queries.specs.Shares.{shares_of, shares_bytes, encode_shares, encode_set, demand_tests}
use Rattle.queries.proofs.Encoding.{length-set, belief_read, plausibility_read, at_place}
use Rattle.evaluate.specs.SheetRun.{SheetRun, sheet_run_of, ending_at, store_at, without_shares}
use Rattle.evaluate.specs.Answer.{sheet_outcomes, sheet_list, call_tests, ending, answer}
use Rattle.evaluate.specs.Store.{store_after}
use Rattle.evaluate.specs.Set.{set_tests, shares_by}
use Rattle.evaluate.specs.Demands.{set_answered, set_store, shares_then, Place, demand_of, belief_of, plausibility_of, SetMet}
use Rattle.evaluate.proofs.Finish.{drive_storable}
use Rattle.evaluate.proofs.Numbers.{set_numbered, answer_is, store_is, set_answer_is, set_store_is, shares_is}
use Rattle.evaluate.proofs.Demands.{end_of, Called, first_of, refuses, accepts, number-own, same_number, run_by, AcceptedCall, valid, demand_2_of, demand_3_of, RunFits64, refused_fits, answer_fits}

module _ (s demands : List ℕ) (allowance : ℕ) (store shares : List ℕ) where
  abbrev room : ℕ
  room = length store

  abbrev here : SheetRun
  here = set_answered s demands allowance store shares

  abbrev count : ℕ
  count = length demands

  called : Called s allowance store (demand_tests count (length shares)) here (set_store s demands allowance store shares)
  called = record {
    numbers = set_numbered s demands room (length shares);
    run_is = set_answer_is s demands allowance room (length shares);
    stored = set_store_is s demands allowance store (length shares);
  }

  -- What it ends in says what is answered and what the shares' buffer holds.
  abbrev end : Evaluation Tree
  end = end_of s allowance store (demand_tests count (length shares))

  pub answer_by : {v : Evaluation Tree} → end ≡ v → here ≡ sheet_run_of v s
  answer_by e = called.run_is ∙ ap (λ (v : Evaluation Tree). sheet_run_of v s) e

  pub shares_by_end : {v : Evaluation Tree} → end ≡ v → shares_then s demands allowance store shares ≡ shares_by v demands (sheet_outcomes s) shares
  shares_by_end e = shares_is s demands allowance room shares ∙ ap (λ (v : Evaluation Tree). shares_by v demands (sheet_outcomes s) shares) e

  -- A refusal.
  refused_here : (k : ℕ) → 0 < k → here.number ≡ k → end ≡ refused k
  refused_here = refuses s allowance store (demand_tests count (length shares)) called

  -- The bytes behind the last pair.
  later_by : (v : Evaluation Tree) → drop (shares_bytes * count) (shares_by v demands (sheet_outcomes s) shares) ≡ drop (shares_bytes * count) shares
  later_by (refused k) = refl
  later_by (completed stack pairs) =
      drop_at (encode_set demands (sheet_outcomes s)) (drop (shares_bytes * count) shares) (shares_bytes * count) (length-set demands (sheet_outcomes s))

  -- Its own tests: 17 where the first is broken, 18 where only the second is.
  is_17 : (a b : Bool) → (◌≡◌ {A = ℕ} (cond a 17 (cond b 18 0)) 17) ↔ (a ≡ true)
  is_17 true b = (λ e. refl, λ e. refl)
  is_17 false true = (λ e. absurd (omega arith), λ e. absurd (false≢true e))
  is_17 false false = (λ e. absurd (omega arith), λ e. absurd (false≢true e))

  is_18 : (a b : Bool) → (◌≡◌ {A = ℕ} (cond a 17 (cond b 18 0)) 18) ↔ ((a ≡ false) × (b ≡ true))
  is_18 true b = (λ e. absurd (omega arith), λ e. absurd (false≢true (sym e.0)))
  is_18 false true = (λ e. (refl, refl), λ e. refl)
  is_18 false false = (λ e. absurd (omega arith), λ e. absurd (false≢true e.1))

  own_only : (a b : Bool) (k : ℕ) → 0 < k → cond a 17 (cond b 18 0) ≡ k → (k ≡ 17) ⊎ (k ≡ 18)
  own_only true b k h e = inl (sym e)
  own_only false true k h e = inr (sym e)
  own_only false false k h e = absurd (omega arith)

  seventeen : (here.number ≡ 17) ↔ (Every Unbroken (call_tests s room) × ((count < 1) ⊎ (most_demands < count)))
  seventeen =
      let own = number-own s allowance store (demand_tests count (length shares)) called 17 (omega arith) refl refl in
      let b = is_17 (outside 1 most_demands count) (ltb (length shares) (shares_bytes * count)) in
      let o = beyond 1 most_demands count in
      (λ e. ((own.0 e).0, o.0 (b.0 (own.0 e).1)), λ (u, h). own.1 (u, b.1 (o.1 h)))

  eighteen : (here.number ≡ 18) ↔ (Every Unbroken (call_tests s room) × ((1 ≤ count) × (count ≤ most_demands)) × (length shares < shares_bytes * count))
  eighteen =
      let own = number-own s allowance store (demand_tests count (length shares)) called 18 (omega arith) refl refl in
      let b = is_18 (outside 1 most_demands count) (ltb (length shares) (shares_bytes * count)) in (
        λ e. let (u, k) = own.0 e in let (i, o) = b.0 k in (u, within 1 most_demands count i, ltb-true (length shares) (shares_bytes * count) o),
        λ (u, i, o). own.1 (u, b.1 (not_outside 1 most_demands count i.0 i.1, lt-ltb (length shares) (shares_bytes * count) o)),
      )

  -- But for these two.
  module _ (not-17 : here.number ≡ 17 → ⊥) (not-18 : here.number ≡ 18 → ⊥) where
    same_tests : first_broken (set_tests s demands room (length shares)) ≡ first_broken (call_tests s room)
    same_tests = same_number s allowance store (demand_tests count (length shares)) called
        (λ k h f e. neither (own_only (outside 1 most_demands count) (ltb (length shares) (shares_bytes * count)) k h f) e)
      where
        neither : {k : ℕ} → (k ≡ 17) ⊎ (k ≡ 18) → here.number ≡ k → ⊥
        neither (inl q) e = not-17 (e ∙ q)
        neither (inr q) e = not-18 (e ∙ q)

    as_ordinary : (d : ℕ) → here ≡ without_shares (answer s d allowance room)
    as_ordinary d =
        called.run_is ∙ (ap (λ (n : ℕ). sheet_run_of (ending_at n s allowance) s) same_tests
        ∙ (sym (run_by (ending (call_tests s room) s allowance) s d) ∙ ap without_shares (sym (answer_is s d allowance room))))

    store_as_ordinary : set_store s demands allowance store shares ≡ store_after s allowance store
    store_as_ordinary =
        set_store_is s demands allowance store (length shares) ∙ (ap (λ (n : ℕ). store_at n s allowance store) same_tests ∙ sym (store_is s allowance store))

  -- An accepted call.
  module _ (e : here.number ≡ 0) where
    accepts_here : AcceptedCall s allowance store (demand_tests count (length shares)) here (set_store s demands allowance store shares)
    accepts_here = accepts s allowance store (demand_tests count (length shares)) called e

    -- The buffer, and its numbers at a place.
    shares_are : shares_then s demands allowance store shares ≡ encode_set demands (sheet_outcomes s) ++ drop (shares_bytes * count) shares
    shares_are = shares_by_end accepts_here.ends

    at : (i k : ℕ) → i < count → (behind : List ℕ)
        × (number_at (shares_then s demands allowance store shares) (shares_bytes * i + k) 8
        ≡ number_at (encode_shares (shares_of (get_or demands i 0) (sheet_outcomes s)) ++ behind) k 8)
    at i k h = rw shares_are (at_place demands (sheet_outcomes s) (drop (shares_bytes * count) shares) i k h)

    -- A share by one end of the intervals is read back, k bytes behind the start of its pair.
    read_at : (k : ℕ) (end : ℕ → ℕ → ℕ) → let share : ℕ → ℕ = λ d. weight_where (λ low high. leb d (end low high)) (sheet_outcomes s) in
        ((d : ℕ) (rest : List ℕ) → share d < 2 ^ 64 → number_at (encode_shares (shares_of d (sheet_outcomes s)) ++ rest) k 8 ≡ share d)
        → (i : ℕ) → i < count → number_at (shares_then s demands allowance store shares) (shares_bytes * i + k) 8 ≡ share (get_or demands i 0)
    read_at k end back i h =
        let (behind, q) = at i k h in
        let test : ℕ → ℕ → Bool = λ low high. leb (get_or demands i 0) (end low high) in
        let fits : weight_where test (sheet_outcomes s) < 2 ^ 64 =
        omega (arith, (drive_storable (valid accepts_here)).1, where_le test (sheet_list s), where_collect test (sheet_outcomes s)) in
        q ∙ back (get_or demands i 0) behind fits

    beliefs : (p : Place demands) → belief_of s demands allowance store shares p ≡ belief (demand_of demands p) (sheet_outcomes s)
    beliefs (i, h) =
        rw (add-zero (shares_bytes * i)) at (read_at 0 (λ low high. low) (λ d rest. belief_read (shares_of d (sheet_outcomes s)) rest) i h)

    plausibilities : (p : Place demands) → plausibility_of s demands allowance store shares p ≡ plausibility (demand_of demands p) (sheet_outcomes s)
    plausibilities (i, h) = read_at 8 (λ low high. high) (λ d rest. plausibility_read (shares_of d (sheet_outcomes s)) rest) i h

  pub set_met : SetMet s demands allowance store shares
  set_met = record {
    first = first_of s allowance store (demand_tests count (length shares)) called;
    seventeen = seventeen;
    eighteen = eighteen;
    zeros = λ k h e. answer_by (refused_here k h e);
    shares_kept = λ k h e. shares_by_end (refused_here k h e);
    later_kept = ap (drop (shares_bytes * count)) (shares_by_end refl) ∙ later_by end;
    as_ordinary = as_ordinary;
    store_as_ordinary = store_as_ordinary;
    second = λ e. demand_2_of (accepts_here e) (beliefs e) (plausibilities e);
    third = λ e. demand_3_of (accepts_here e) (beliefs e) (plausibilities e);
  }

  -- ---- The answers fit 64 bits.

  pub set_answer_fits : RunFits64 allowance here
  set_answer_fits = elim (ℕ_discrete here.number 17) [
    | yes e ↦ rw (answer_by (refused_here 17 (omega arith) e)) (refused_fits allowance 17)
    | no n ↦ elim (ℕ_discrete here.number 18) [
      | yes e ↦ rw (answer_by (refused_here 18 (omega arith) e)) (refused_fits allowance 18)
      | no m ↦ rw (as_ordinary n m 0) (answer_fits s 0 allowance store).run
    ]
  ]
