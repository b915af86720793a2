-- The three demands hold: the statements of specs/Demands.antt. Assumes nothing.
use Prim.Native.Nat.{ℕ, zero, suc, ◌^◌, ◌≤◌, ◌<◌}
use mathlib.Core.Path.{◌≡◌, refl, sym, ap, subst, ◌∙◌}
use mathlib.Core.Logic.{◌⊎◌, inl, inr, ◌↔◌}
use mathlib.Core.Bool.{false, cond, false≢true}
use mathlib.Core.List.{List, [], ◌++◌}
use native.Mathlib.Nat.{le_trans, pow-le-pow_right}
use native.Mathlib.Decide.{ℕ_discrete}
use native.Mathlib.Omega.{arith}
use lib.Dec.{leb, eqb}
use lib.ListN.{length}
use borrow.Author.Tests.{eq-eqb, ne_eqb, lt-leb}
use Rattle.theory.specs.declared.Entry.{Entry}
use Rattle.theory.specs.declared.Component.{Component}
use Rattle.theory.specs.Structure.{Tree}
use Rattle.theory.specs.Evaluation.{Evaluation, completed, refused}
use Rattle.theory.specs.Limits.{most_total, most_components}
use Rattle.theory.specs.Sums.{Every}
use Rattle.theory.specs.Masses.{total}
use Rattle.theory.specs.Focal.{weights, InRange, Positive}
use Rattle.theory.specs.declared.Focal.{Focal}
use Rattle.theory.specs.Choices.{belief, plausibility}
use Rattle.theory.specs.Lists.{outcomes_of}
use Rattle.theory.specs.Bounds.{Bounds}
use Rattle.theory.proofs.Every.{every_map, every_all, every_split}
use Rattle.theory.proofs.Masses.{length-masses, rest_added}
use Rattle.theory.proofs.Steps.{positive_outcomes_of}
use Rattle.theory.proofs.Collect.{order_collect, positive_collect, where_le, where_none, share_antitone, weight_at-collect, belief-collect, plausibility-collect}
use Rattle.theory.proofs.Totals.{weights_list_of, weights-drive_list, total_le, fits_list_of}
use Rattle.theory.proofs.Range.{spans_choices}
use Rattle.theory.proofs.Bounds.{bounds}
use Rattle.records.specs.Store.{settled}
use Rattle.records.proofs.Store.{settled_list}
use Rattle.plan.specs.declared.Plan.{Plan}
use Rattle.plan.specs.Tests.{Test, first_broken, any_of, Unbroken}
use Rattle.plan.specs.Valid.{Valid}
use Rattle.plan.proofs.Numbers.{none_broken, number_never, refused_by, first_behind}
use Rattle.writing.proofs.Cleaned.{ignores_unused}
use Rattle.writing.proofs.Accepted.{written_accepted, written_refused_by}
use Rattle.writing.proofs.Theorems.{written_longest, written_is_read, read_is_written, nothing_written, rest_kept}
use Rattle.run.specs.Run.{needed, cleared}
use Rattle.plan.proofs.Entries.{components_count}
use Rattle.evaluate.specs.Answer.{Answer, plan_of, components, structure, sheet_outcomes, sheet_list, call_tests, evaluated, ending, refusal, answer_of}
use Rattle.evaluate.specs.SheetRun.{SheetRun, refused_run, sheet_run_of, ending_at, without_shares}
use Rattle.evaluate.specs.Store.{is_late, store_by, store_with, store_after}
use Rattle.evaluate.specs.Demands.{Passed, Broken, by_test, by_join, answer_at, answered, Demand-1, Demand-2, Demand-3, DemandsMet, Writer, RoundTrips}
use Rattle.evaluate.proofs.Numbers.{Numbered, call_numbered, number_then_is, Ended, tested, stopped, passed, ended, answer_is, store_is}
use Rattle.evaluate.proofs.Finish.{WithinAllowance, completes, within, leaves_by, drive_fits, drive_storable, late, above, ready}

-- Equal functions over an equal whole have the same bounds.
bounds_of : {I : Type 0} {es : List Entry} {cs : List Component} {v w : ℕ} {demand_at f g h k : I → ℕ} → v ≡ w → ((i : I) → f i ≡ h i) → ((i : I) → g i ≡ k i)
    → Bounds es cs v demand_at f g → Bounds es cs w demand_at h k
bounds_of e p q b = record {
  least = λ D i. rw (← p i, ← e) (b.least D i);
  greatest = λ D i. rw (← q i, ← e) (b.greatest D i);
  least_met = (b.least_met.0, λ i. rw (← p i, ← e) (b.least_met.1 i));
  greatest_met = (b.greatest_met.0, λ i. rw (← q i, ← e) (b.greatest_met.1 i));
  least_tight = λ i a c t. rw (← p i, ← e) (b.least_tight i a c t);
  greatest_tight = λ i a c t. rw (← q i, ← e) (b.greatest_tight i a c t);
}

-- ---- demand 1, for every call: what it ends in, and what its number says

abbrev pub end_number : Evaluation Tree → ℕ
end_number (refused k) = k
end_number (completed stack pairs) = 0

pub refused_end : (k : ℕ) → 0 < k → (v : Evaluation Tree) → end_number v ≡ k → v ≡ refused k
refused_end k h (refused n) e = ap refused e
refused_end k h (completed stack pairs) e = absurd (omega arith)

module _ (tests : List Test) (s : List ℕ) (allowance : ℕ) (store : List ℕ) where
  abbrev number : ℕ
  number = first_broken tests

  abbrev end : Evaluation Tree
  end = ending tests s allowance

  was_passed : Numbered tests → {v : Evaluation Tree} → Ended number s allowance v → end_number v ≡ 0 → Passed tests s allowance
  was_passed ns (tested h z) e = absurd (omega arith)
  was_passed ns (stopped {k = k} z l q) e = absurd (omega (arith, above k l))
  was_passed ns (passed {stack = stack} {pairs = pairs} z q) e = record { unbroken = ns.kept z; stack = stack; pairs = pairs; runs = q }

  pub passes : (pass : Passed tests s allowance) → end ≡ completed pass.stack pass.pairs
  passes pass = rw (none_broken pass.unbroken, pass.runs)

  was_broken : Numbered tests → (k : ℕ) → 0 < k → {v : Evaluation Tree} → Ended number s allowance v → end_number v ≡ k → Broken tests s allowance k
  was_broken ns k h (tested l z) e = by_test ((refused_by tests k h).0 (z ∙ e))
  was_broken ns k h (stopped z l q) e = subst (Broken tests s allowance) e (by_join (ns.kept z) l q)
  was_broken ns k h (passed z q) e = absurd (omega arith)

  breaks : (k : ℕ) → 0 < k → Broken tests s allowance k → end_number end ≡ k
  breaks k h (by_join t l q) = rw (none_broken t, q)
  breaks k h (by_test f) = go k h ((refused_by tests k h).1 f)
    where
      go : (n : ℕ) → 0 < n → first_broken tests ≡ n → end_number end ≡ n
      go zero h e = absurd (omega arith)
      go (suc n) h e = rw e

  -- The store as it then is.
  abbrev size : ℕ
  size = needed (plan_of s)

  abbrev store_in : Evaluation Tree → List ℕ
  store_in v = store_by v size (sheet_list s) store

  store_late : Numbered tests → (k : ℕ) → (k ≡ 13) ⊎ (k ≡ 14) → {v : Evaluation Tree} → Ended number s allowance v → end_number v ≡ k → store_in v ≡ cleared size store
  store_late ns k m (tested h z) e = absurd (false≢true (sym ns.early ∙ (ap is_late (z ∙ e) ∙ late k m)))
  store_late ns k m (stopped {k = n} z b q) e = rw (late n b)
  store_late ns k m (passed z q) e = absurd (omega (arith, above k m))

  store_kept : Numbered tests → (k : ℕ) → 0 < k → (k ≡ 13 → ⊥) → (k ≡ 14 → ⊥) → {v : Evaluation Tree} → Ended number s allowance v → end_number v ≡ k → store_in v ≡ store
  store_kept ns k h a b (tested i z) e = rw (ap is_late (sym z) ∙ ns.early)
  store_kept ns k h a b (stopped z (inl m) q) e = absurd (a (sym e ∙ m))
  store_kept ns k h a b (stopped z (inr m) q) e = absurd (b (sym e ∙ m))
  store_kept ns k h a b (passed z q) e = absurd (omega arith)

  -- A call that answers the number and leaves the store that these tests say.
  pub demand_1_of : Numbered tests → {n : ℕ} {after : List ℕ} → n ≡ end_number end → after ≡ store_with tests s allowance store → Demand-1 tests s allowance n store after
  demand_1_of ns {n} {after} number_is stored =
      let ends = ended number s allowance in
      record {
        accepted = (λ e. was_passed ns ends (sym number_is ∙ e), λ pass. number_is ∙ ap end_number (passes pass));
        refused_by = λ k h. (λ e. was_broken ns k h ends (sym number_is ∙ e), λ b. number_is ∙ breaks k h b);
        store_accepted = λ e. stored ∙ ap store_in (passes (was_passed ns ends (sym number_is ∙ e)));
        store_late = λ k m e. stored ∙ store_late ns k m ends (sym number_is ∙ e);
        store_kept = λ k h i j e. stored ∙ store_kept ns k h i j ends (sym number_is ∙ e);
      }

-- ---- demands 2 and 3, for every accepted call

-- A call on a sheet has its own tests behind the others.
module _ (s : List ℕ) (allowance : ℕ) (store : List ℕ) (own : List Test) where
  abbrev pub end_of : Evaluation Tree
  end_of = ending (call_tests s (length store) ++ own) s allowance

  -- What is known of an accepted one: no test is broken; the run; what is answered beside the shares and left.
  pub record AcceptedCall (r : SheetRun) (after : List ℕ) : Type 0 where
    pub unbroken : Every Unbroken (call_tests s (length store))
    pub own_unbroken : Every Unbroken own
    pub stack : List Tree
    pub pairs : ℕ
    pub runs : evaluated s allowance ≡ completed stack pairs
    pub ends : end_of ≡ completed stack pairs
    pub answer_is_run : r ≡ sheet_run_of (completed stack pairs) s
    pub stored : after ≡ settled (needed (plan_of s)) (sheet_list s) store

module _ {s : List ℕ} {allowance : ℕ} {store : List ℕ} {own : List Test} {r : SheetRun} {after : List ℕ} (a : AcceptedCall s allowance store own r after) where
  pub valid : Valid (plan_of s)
  valid = (ready s store (none_broken a.unbroken)).valid

  pub total_is : r.total ≡ total (components s)
  total_is = ap (λ (x : SheetRun). x.total) a.answer_is_run

  module _ {I : Type 0} {demand_at belief_at plausibility_at : I → ℕ} (b : (i : I) → belief_at i ≡ belief (demand_at i) (sheet_outcomes s))
      (p : (i : I) → plausibility_at i ≡ plausibility (demand_at i) (sheet_outcomes s)) where
    pub demand_2_of : Demand-2 s allowance r after demand_at belief_at plausibility_at
    demand_2_of =
        let every = sheet_outcomes s in
        let l = sheet_list s in
        let leaves = leaves_by valid allowance a.stack a.pairs a.runs in
        let n : r.intervals ≡ length l = ap (λ (x : SheetRun). x.intervals) a.answer_is_run in
        let pairs_is : r.pairs ≡ a.pairs = ap (λ (x : SheetRun). x.pairs) a.answer_is_run in
        let fits = drive_storable valid in
        let range : Every InRange l = (drive_fits valid).speeds in
        let six : length (components s) ≤ most_components = omega (arith, components_count (plan_of s), valid.most) in
        record {
          masses_most = every_map (λ c h. length-masses c h.1) valid.counts;
          masses_once = valid.distinct;
          masses_whole = valid.balanced;
          masses_rest = every_all rest_added (components s);
          total_is = total_is;
          belief_is = b;
          plausibility_is = p;
          belief_antitone = λ i j h. rw (b i, b j) (share_antitone demand_at (λ low high. low) every i j h);
          plausibility_antitone = λ i j h. rw (p i, p j) (share_antitone demand_at (λ low high. high) every i j h);
          total_most = rw total_is (le_trans (total_le (every_map (λ c t. t.1) valid.totals)) (pow-le-pow_right {n = most_total} (omega arith) six));
          spans = spans_choices (structure s) valid.in_range;
          list_length = n;
          list_read = rw (n, a.stored) (settled_list (needed (plan_of s)) store fits.0 fits.1);
          list_ordered = order_collect every;
          list_positive = rw leaves.list at (positive_collect (positive_outcomes_of valid.positive leaves.tree));
          lists_ordered = λ t. order_collect (outcomes_of (components s) t);
          lists_weights = weights_list_of valid.balanced;
          list_in_range = range;
          lists_in_range = λ t. (fits_list_of valid.in_range valid.balanced (every_map (λ c q. q.1) valid.totals) t).speeds;
          above_top = λ i h. (
            b i ∙ sym (belief-collect (demand_at i) every) ∙ where_none (λ low high. leb (demand_at i) low) (every_map (λ f q. lt-leb (demand_at i) f.low (omega (arith, q.low_high, q.below))) range),
            p i ∙ sym (plausibility-collect (demand_at i) every) ∙ where_none (λ low high. leb (demand_at i) high) (every_map (λ f q. lt-leb (demand_at i) f.high (omega (arith, q.below))) range),
          );
          list_weight = λ low high. weight_at-collect low high every;
          list_weights = weights-drive_list valid.balanced (structure s) ∙ sym total_is;
          list_belief = λ i. belief-collect (demand_at i) every ∙ sym (b i);
          list_plausibility = λ i. plausibility-collect (demand_at i) every ∙ sym (p i);
          tree = leaves.tree;
          built = leaves.built;
          pairs_are = pairs_is ∙ leaves.counted;
          pairs_most = allowed (rw a.runs at (within (components s) allowance (structure s) [] 0 (omega arith))) pairs_is;
        }
      where
        allowed : {stack : List Tree} {pairs n : ℕ} → WithinAllowance allowance (completed stack pairs) → n ≡ pairs → n ≤ allowance
        allowed (completes h) q = omega arith

    pub demand_3_of : Demand-3 s r demand_at belief_at plausibility_at
    demand_3_of = bounds_of (sym total_is) (λ i. sym (b i)) (λ i. sym (p i)) (bounds (structure s) valid.in_range demand_at)

-- ---- a call past tests and run, its own tests behind the others

number_by : (v : Evaluation Tree) (s : List ℕ) → (sheet_run_of v s).number ≡ end_number v
number_by (refused k) s = refl
number_by (completed stack pairs) s = refl

module _ (s : List ℕ) (allowance : ℕ) (store : List ℕ) (own : List Test) where
  abbrev first_tests : List Test
  first_tests = call_tests s (length store)

  abbrev tests : List Test
  tests = first_tests ++ own

  abbrev ends_in : Evaluation Tree
  ends_in = end_of s allowance store own

  -- What is answered beside the shares, and the store that is left.
  pub record Called (r : SheetRun) (after : List ℕ) : Type 0 where
    pub numbers : Numbered tests
    pub run_is : r ≡ sheet_run_of ends_in s
    pub stored : after ≡ store_with tests s allowance store

  module _ {r : SheetRun} {after : List ℕ} (c : Called r after) where
    number_is : r.number ≡ end_number ends_in
    number_is = ap (λ (x : SheetRun). x.number) c.run_is ∙ number_by ends_in s

    pub first_of : Demand-1 tests s allowance r.number store after
    first_of = demand_1_of tests s allowance store c.numbers number_is c.stored

    pub refuses : (k : ℕ) → 0 < k → r.number ≡ k → ends_in ≡ refused k
    refuses k h e = refused_end k h ends_in (sym number_is ∙ e)

    pub accepts : r.number ≡ 0 → AcceptedCall s allowance store own r after
    accepts e =
        let pass : Passed tests s allowance = first_of.accepted.0 e in
        let kept = every_split first_tests pass.unbroken in
        let ends : ends_in ≡ completed pass.stack pass.pairs = passes tests s allowance store pass in
        record {
          unbroken = kept.0;
          own_unbroken = kept.1;
          stack = pass.stack;
          pairs = pass.pairs;
          runs = pass.runs;
          ends = ends;
          answer_is_run = c.run_is ∙ ap (λ (v : Evaluation Tree). sheet_run_of v s) ends;
          stored = first_of.store_accepted e;
        }

    -- A number that only its own tests have says that none before them is broken, and theirs is.
    pub number-own : (k : ℕ) → 0 < k → is_late k ≡ false → any_of (λ t. eqb t.number k) first_tests ≡ false → (r.number ≡ k) ↔ (Every Unbroken first_tests × (first_broken own ≡ k))
    number-own k h l e =
        (λ m. found ((first_of.refused_by k h).0 m), λ (u, f). (first_of.refused_by k h).1 (by_test (first_behind u ((refused_by own k h).0 f))))
      where
        go : (j : ℕ) → first_broken first_tests ≡ j → cond (eqb j 0) (first_broken own) j ≡ k → Every Unbroken first_tests × (first_broken own ≡ k)
        go zero z q = ((call_numbered s (length store)).kept z, q)
        go (suc j) z q =
            let m : suc j ≡ k = rw (ne_eqb (suc j) 0 (λ z. omega arith)) at q in
            absurd (false≢true (sym (number_never (λ n. eqb n k) (ne_eqb 0 k (λ z. omega arith)) first_tests e) ∙ eq-eqb _ k (z ∙ m)))

        found : Broken tests s allowance k → Every Unbroken first_tests × (first_broken own ≡ k)
        found (by_join u m q) = absurd (false≢true (sym l ∙ late k m))
        found (by_test f) = go (first_broken first_tests) refl (number_then_is s (length store) own ∙ (refused_by tests k h).1 f)

    -- Where the number is none of theirs, the tests have the number of an ordinary call's.
    pub same_number : ((k : ℕ) → 0 < k → first_broken own ≡ k → r.number ≡ k → ⊥) → first_broken tests ≡ first_broken first_tests
    same_number h = sym (number_then_is s (length store) own) ∙ go (first_broken first_tests) refl (first_broken own) refl
      where
        go : (j : ℕ) → first_broken first_tests ≡ j → (k : ℕ) → first_broken own ≡ k → cond (eqb j 0) k j ≡ j
        go (suc j) e k f = rw (ne_eqb (suc j) 0 (λ z. omega arith))
        go zero e zero f = refl
        go zero e (suc k) f =
            let b : first_broken tests ≡ suc k = sym (number_then_is s (length store) own) ∙ rw (e, f) in
            absurd (h (suc k) (omega arith) f (number_is ∙ ap (λ (m : ℕ). end_number (ending_at m s allowance)) b))

-- An answer without its shares is the same at any demand.
pub run_by : (v : Evaluation Tree) (s : List ℕ) (d : ℕ) → without_shares (answer_of v (structure s) (components s) d) ≡ sheet_run_of v s
run_by (refused k) s d = refl
run_by (completed stack pairs) s d = refl

-- The ordinary call.
module _ (s : List ℕ) (demand allowance : ℕ) (store : List ℕ) where
  abbrev here : Answer
  here = answered s demand allowance store

  abbrev end_here : Evaluation Tree
  end_here = end_of s allowance store []

  pub answer_by : (d : ℕ) {v : Evaluation Tree} → end_here ≡ v → answer_at s demand allowance store d ≡ answer_of v (structure s) (components s) d
  answer_by d e = answer_is s d allowance (length store) ∙ ap (λ (v : Evaluation Tree). answer_of v (structure s) (components s) d) e

  called : Called s allowance store [] (without_shares here) (store_after s allowance store)
  called = record {
    numbers = call_numbered s (length store);
    run_is = ap without_shares (answer_by demand refl) ∙ run_by end_here s demand;
    stored = store_is s allowance store;
  }

  pub demand_1 : Demand-1 (call_tests s (length store)) s allowance here.number store (store_after s allowance store)
  demand_1 = first_of s allowance store [] called

  pub zeros : (k : ℕ) → 0 < k → here.number ≡ k → here ≡ refusal k
  zeros k h e = answer_by demand (refuses s allowance store [] called k h e)

  -- Accepted.
  module _ (e : here.number ≡ 0) where
    abbrev belief_here : ℕ → ℕ
    belief_here d = (answer_at s demand allowance store d).belief

    abbrev plausibility_here : ℕ → ℕ
    plausibility_here d = (answer_at s demand allowance store d).plausibility

    accepted_here : AcceptedCall s allowance store [] (without_shares here) (store_after s allowance store)
    accepted_here = accepts s allowance store [] called e

    beliefs : (d : ℕ) → belief_here d ≡ belief d (sheet_outcomes s)
    beliefs d = ap (λ (x : Answer). x.belief) (answer_by d accepted_here.ends)

    plausibilities : (d : ℕ) → plausibility_here d ≡ plausibility d (sheet_outcomes s)
    plausibilities d = ap (λ (x : Answer). x.plausibility) (answer_by d accepted_here.ends)

    pub demand_2 : Demand-2 s allowance (without_shares here) (store_after s allowance store) (λ d. d) belief_here plausibility_here
    demand_2 = demand_2_of accepted_here beliefs plausibilities

    pub demand_3 : Demand-3 s (without_shares here) (λ d. d) belief_here plausibility_here
    demand_3 = demand_3_of accepted_here beliefs plausibilities

  pub demands_met : DemandsMet s demand allowance store
  demands_met = record { first = demand_1; zeros = zeros; second = demand_2; third = demand_3 }

pub writer : (p : Plan) (buffer : List ℕ) → Writer p buffer
writer p buffer =
    record {
      accepted = written_accepted p (length buffer);
      refused_by = written_refused_by p (length buffer);
      nothing_written = nothing_written p buffer;
      rest_kept = rest_kept p buffer;
      longest = written_longest p (length buffer);
      ignores_unused = ignores_unused p buffer;
    }

pub round_trips : RoundTrips
round_trips = record { written_reads = written_is_read; read_writes = read_is_written }

-- ---- The numbers of an answer fit 64 bits.

pub record RunFits64 (allowance : ℕ) (r : SheetRun) : Type 0 where
  pub total : r.total < 2 ^ 64
  pub pairs : allowance < 2 ^ 64 → r.pairs < 2 ^ 64
  pub intervals : r.intervals < 2 ^ 64

pub record Fits64 (allowance : ℕ) (a : Answer) : Type 0 where
  pub run : RunFits64 allowance (without_shares a)
  pub belief : a.belief < 2 ^ 64
  pub plausibility : a.plausibility < 2 ^ 64

pub refused_fits : (allowance k : ℕ) → RunFits64 allowance (refused_run k)
refused_fits allowance k = record { total = omega arith; pairs = λ h. omega arith; intervals = omega arith }

pub refusal_fits : (allowance k : ℕ) → Fits64 allowance (refusal k)
refusal_fits allowance k = record { run = refused_fits allowance k; belief = omega arith; plausibility = omega arith }

length_le : {l : List Focal} → Every Positive l → length l ≤ weights l
length_le Every.none = omega arith
length_le (Every.more p r) = omega (arith, length_le r)

module _ (s : List ℕ) (demand allowance : ℕ) (store : List ℕ) where
  pub answer_fits : Fits64 allowance (answered s demand allowance store)
  answer_fits = elim (ℕ_discrete (answered s demand allowance store).number 0) [
    | yes e ↦
        let second = demand_2 s demand allowance store e in
        let l = sheet_list s in
        let t : weights l ≤ 1000000000000000000 = omega (arith, second.list_weights, second.total_most) in
        let p : length l ≤ weights l = length_le second.list_positive in
        record {
          run = record {
            total = omega (arith, second.total_most);
            pairs = λ h. omega (arith, second.pairs_most);
            intervals = omega (arith, second.list_length);
          };
          belief = omega (arith, second.list_belief demand, where_le (λ low high. leb demand low) l);
          plausibility = omega (arith, second.list_plausibility demand, where_le (λ low high. leb demand high) l);
        }
    | no n ↦ rw (zeros s demand allowance store (answered s demand allowance store).number (omega arith) refl) (refusal_fits allowance _)
  ]
