-- What is asked of the list that tests and run leave in the store. Assumes nothing.
use Prim.Native.Nat.{ℕ, ◌*◌, ◌≤◌}
use mathlib.Core.Path.{◌≡◌, refl, sym, ap, ◌∙◌}
use mathlib.Core.List.{List, ◌++◌}
use native.Mathlib.Omega.{arith}
use lib.ListN.{length, drop, length-append}
use borrow.Author.Tests.{ltb-false}
use Rattle.std.specs.Prelude.{Ok}
use Rattle.theory.specs.Limits.{record_bytes}
use Rattle.theory.specs.Sums.{for_each, Every}
use Rattle.theory.specs.Masses.{total}
use Rattle.theory.specs.declared.Focal.{Focal}
use Rattle.theory.specs.Structure.{Tree}
use Rattle.theory.specs.Evaluation.{Evaluation, completed, refused}
use Rattle.theory.specs.Speed.{speed_for}
use Rattle.theory.proofs.Every.{every_map}
use Rattle.theory.proofs.Collect.{order_collect, belief-collect, plausibility-collect}
use Rattle.theory.proofs.Totals.{total_positive}
use Rattle.plan.specs.Tests.{Test, first_broken, Unbroken}
use Rattle.records.specs.Records.{records}
use Rattle.records.proofs.RecordLaws.{length-encode}
use Rattle.records.proofs.Store.{settled_list}
use Rattle.queries.specs.declared.Shares.{Shares}
use Rattle.queries.specs.Shares.{shares_of, shares_bytes, encode_shares, encode_set, demand_tests, Summable}
use Rattle.queries.specs.Speed.{target_tests, Searchable}
use Rattle.run.specs.Run.{needed}
use Rattle.evaluate.specs.declared.AcceptedRun.{AcceptedRun}
use Rattle.evaluate.specs.Answer.{plan_of, components, structure, sheet_outcomes, sheet_list, call_tests, answered_as, answer_of}
use Rattle.evaluate.specs.SheetRun.{SheetRun, number_then, run_as, sheet_run_of, ending_at, store_at, sheet_run, store_then}
use Rattle.evaluate.specs.Speed.{speed_as, speed_by, speed_answer_of}
use Rattle.evaluate.specs.Set.{shares_by}
use Rattle.evaluate.proofs.Numbers.{Numbered, number_then_is}
use Rattle.evaluate.proofs.Finish.{drive_storable, target_inside}
use Rattle.evaluate.proofs.Demands.{end_of, Called, AcceptedCall, valid, total_is}

-- Tests and run of a call, by its own tests.
module _ (s : List ℕ) (allowance : ℕ) (store : List ℕ) (own : List Test) where
  pub called : Numbered (call_tests s (length store) ++ own) → {n : ℕ} → n ≡ first_broken own → {r : SheetRun} {after : List ℕ}
      → r ≡ sheet_run s (length store) n allowance → after ≡ store_then s n allowance store → Called s allowance store own r after
  called numbers {n} own_is e f =
      let number_is : number_then s (length store) n ≡ first_broken (call_tests s (length store) ++ own) =
      ap (number_then s (length store)) own_is ∙ number_then_is s (length store) own in
      record {
        numbers = numbers;
        run_is = e ∙ ap (λ (k : ℕ). sheet_run_of (ending_at k s allowance) s) number_is;
        stored = f ∙ ap (λ (k : ℕ). store_at k s allowance store) number_is;
      }

-- The list of an accepted call.
module _ {s : List ℕ} {allowance : ℕ} {store : List ℕ} {own : List Test} {x : AcceptedRun} {after : List ℕ} (a : AcceptedCall s allowance store own (run_as (Ok x)) after) where
  length_is : x.intervals ≡ length (sheet_list s)
  length_is = ap (λ (r : SheetRun). r.intervals) a.answer_is_run

  inside : record_bytes * x.intervals ≤ length after
  inside = rw (length_is, a.stored) (simp length-append (omega (arith, length-encode (sheet_list s))))

  -- It is read from the store.
  module _ {l : List Focal} (e : record_bytes * x.intervals ≤ length after → l ≡ records x.intervals after) where
    pub list_is : l ≡ sheet_list s
    list_is =
        let fits = drive_storable (valid a) in
        rw (e inside, length_is, a.stored) (settled_list (needed (plan_of s)) store fits.0 fits.1)

    pub summable : Summable l
    summable = rw list_is (drive_storable (valid a)).1

    -- The answer, with the shares of the list.
    pub answer_asked : (d : ℕ) {y : Shares} → y ≡ shares_of d l
        → answered_as (Ok (record { run = x; shares = y })) ≡ answer_of (end_of s allowance store own) (structure s) (components s) d
    answer_asked d f =
        let r = a.answer_is_run in
        rw (f, list_is) (λ i. record {
          number = 0;
          total = (r i).total;
          belief = belief-collect d (sheet_outcomes s) i;
          plausibility = plausibility-collect d (sheet_outcomes s) i;
          pairs = (r i).pairs;
          intervals = (r i).intervals;
        })
        ∙ ap (λ (v : Evaluation Tree). answer_of v (structure s) (components s) d) (sym a.ends)

    -- The speed for a target, and the answer with the shares at it.
    pub speed_asked : (target : ℕ) {v : ℕ} → v ≡ speed_for target x.total l → {y : Shares} → y ≡ shares_of v l
        → speed_as (Ok (record { answer = record { run = x; shares = y }; speed = v })) ≡ speed_answer_of (end_of s allowance store own) (structure s) (components s) target
    speed_asked target {v} e f =
        let speed_is : v ≡ speed_by (end_of s allowance store own) target (total (components s)) (sheet_list s) =
        e ∙ rw (list_is, a.ends) (ap (λ (u : ℕ). speed_for target u (sheet_list s)) (total_is a)) in
        (λ i. record { answer = answer_asked v f i; speed = v })
        ∙ ap (λ (w : ℕ). record { answer = answer_of (end_of s allowance store own) (structure s) (components s) w; speed = w }) speed_is

    pub shares_asked : (demands shares : List ℕ) → encode_set demands l ++ drop (shares_bytes * length demands) shares
        ≡ shares_by (end_of s allowance store own) demands (sheet_outcomes s) shares
    shares_asked demands shares =
        rw (list_is, a.ends) (λ i.
        for_each demands (λ d. encode_shares (record { belief = belief-collect d (sheet_outcomes s) i; plausibility = plausibility-collect d (sheet_outcomes s) i }))
        ++ drop (shares_bytes * length demands) shares)

-- The shares' buffer of an accepted call for a set has room, and that of a refused one stays.
module _ (s demands : List ℕ) where
  pub shares_room : {allowance : ℕ} {store : List ℕ} (shares : List ℕ) {r : SheetRun} {after : List ℕ}
      → AcceptedCall s allowance store (demand_tests (length demands) (length shares)) r after → shares_bytes * length demands ≤ length shares
  shares_room shares a = go a.own_unbroken
    where
      go : Every Unbroken (demand_tests (length demands) (length shares)) → shares_bytes * length demands ≤ length shares
      go (Every.more e (Every.more f n)) = ltb-false (length shares) (shares_bytes * length demands) f

  pub shares_refused : (shares : List ℕ) (v : Evaluation Tree) {r : SheetRun} → r ≡ sheet_run_of v s → (r.number ≡ 0 → ⊥)
      → shares ≡ shares_by v demands (sheet_outcomes s) shares
  shares_refused shares (refused k) e h = refl
  shares_refused shares (completed stack pairs) e h = absurd (h (ap (λ (y : SheetRun). y.number) e))

-- A list is searched for a speed with a target of 1 to 1,000 and a total above 0.
pub searchable : {s : List ℕ} {target allowance : ℕ} {store : List ℕ} {x : AcceptedRun} {after : List ℕ}
    → (a : AcceptedCall s allowance store (target_tests target) (run_as (Ok x)) after) {l : List Focal}
    → (record_bytes * x.intervals ≤ length after → l ≡ records x.intervals after) → Searchable l target x.total
searchable {s} a e =
    let inside = target_inside a.own_unbroken in
    record {
      summable = summable a e;
      ordered = rw (list_is a e) (order_collect (sheet_outcomes s));
      asked = λ k. record { least = inside.0; most = inside.1; total_positive = rw (total_is a) (total_positive (every_map (λ c t. t.0) (valid a).totals)) };
    }
