-- From the run of a plan to what tests and run answer: the list that the run leaves is the drive's. Assumes nothing.
use Prim.Native.Nat.{ℕ, ◌+◌, ◌*◌, ◌≤◌, ◌<◌}
use mathlib.Core.Path.{◌≡◌, refl, sym, ap, ◌∙◌}
use mathlib.Core.Bool.{Bool, true, false, cond}
use mathlib.Core.Logic.{◌⊎◌, inl, inr}
use mathlib.Core.List.{List, [], ◌∷◌, map}
use native.Mathlib.Omega.{arith}
use lib.Dec.{ltb}
use lib.ListN.{length}
use borrow.Author.Tests.{ltb-false}
use Rattle.std.specs.Prelude.{Result, Ok, Err}
use Rattle.theory.specs.Masses.{total}
use Rattle.theory.specs.declared.Focal.{Focal}
use Rattle.theory.specs.declared.Refusal.{Refusal}
use Rattle.theory.specs.Refusals.{refusal_number, number_in}
use Rattle.theory.specs.declared.Component.{Component}
use Rattle.theory.specs.declared.Entry.{Entry}
use Rattle.theory.specs.declared.Entry.TheVariants.{Component as component, Join as join}
use Rattle.theory.specs.Structure.{NamedOnce, Tree, leaf, node}
use Rattle.theory.specs.Lists.{drive_list, list_of}
use Rattle.theory.specs.Evaluation.{Evaluation, completed, refused, refuse_if, walk, evaluate}
use Rattle.theory.specs.Limits.{most_intervals, thousandths}
use Rattle.theory.specs.Sums.{Every}
use Rattle.theory.proofs.Every.{every_map}
use Rattle.theory.proofs.Method.{image, evaluate_lists, evaluate-refused, Leaves, method}
use Rattle.theory.proofs.Totals.{Fits, fits_drive}
use Rattle.plan.specs.declared.Plan.{Plan}
use Rattle.plan.specs.Tests.{first_broken, Unbroken}
use Rattle.plan.specs.Plan.{components_of, entries_of}
use Rattle.plan.specs.Valid.{Valid}
use Rattle.plan.proofs.Tests.{within as within-bounds}
use Rattle.plan.proofs.Entries.{components_count}
use Rattle.records.specs.Records.{Storable}
use Rattle.queries.specs.Speed.{target_tests}
use Rattle.writing.proofs.Theorems.{read_valid}
use Rattle.run.specs.declared.Run.{Run}
use Rattle.run.specs.Run.{Ran, needed, walked, ran_as, ran_of, store_of, Runnable}
use Rattle.run.proofs.Stacked.{fits_record}
use Rattle.evaluate.specs.Answer.{plan_of, components, structure, sheet_list, call_tests}
use Rattle.evaluate.specs.Store.{is_late, store_by}
use Rattle.evaluate.specs.SheetRun.{number_then, refused_run, sheet_run_of, ending_at, sheet_run, store_then}
use Rattle.theory.proofs.Refusals.{positive}
use Rattle.evaluate.proofs.Numbers.{tests_say}

-- ---- a completed evaluation has formed no more pairs than the allowance

pub data WithinAllowance (allowance : ℕ) : Evaluation Tree → Type 0 where
  refuses : {k : ℕ} → WithinAllowance allowance (refused k)
  completes : {stack : List Tree} {pairs : ℕ} → pairs ≤ allowance → WithinAllowance allowance (completed stack pairs)

module _ (cs : List Component) (allowance : ℕ) where
  pub within : (es : List Entry) (stack : List Tree) (n : ℕ) → n ≤ allowance → WithinAllowance allowance (walk allowance (list_of cs) leaf node es stack n)
  within [] stack n h = completes h
  within (component i ∷ es) stack n h = within es (leaf i ∷ stack) n h
  within (join op ∷ es) [] n h = within es [] n h
  within (join op ∷ es) (y ∷ []) n h = within es (y ∷ []) n h
  within (join op ∷ es) (y ∷ x ∷ stack) n h =
      let m : ℕ = n + length (list_of cs x) * length (list_of cs y) in
      go (ltb allowance m) (ltb most_intervals (length (list_of cs (node op x y)))) (λ e. within es (node op x y ∷ stack) m (ltb-false allowance m e))
    where
      go : (a b : Bool) {v : Evaluation Tree} → (a ≡ false → WithinAllowance allowance v) → WithinAllowance allowance (refuse_if a 13 (refuse_if b 14 v))
      go true b r = refuses
      go false true r = refuses
      go false false r = r refl

-- ---- a plan that keeps the rules

-- How the walk on lists ends, and how the evaluation does.
pub data RunEnds (cs : List Component) (es : List Entry) : Evaluation (List Focal) → Evaluation Tree → Type 0 where
  stops : {k : ℕ} → (k ≡ 13) ⊎ (k ≡ 14) → RunEnds cs es (refused k) (refused k)
  leaves_one : {stack : List Tree} {pairs : ℕ} → Leaves cs es stack pairs → RunEnds cs es (completed (drive_list es cs ∷ []) pairs) (completed stack pairs)

module _ {p : Plan} (valid : Valid p) where
  abbrev cs : List Component
  cs = components_of p

  abbrev es : List Entry
  es = entries_of p

  entries_are : length es + 1 ≡ 2 * length cs
  entries_are = valid.entries ∙ ap (2 *◌) (sym (components_count p))

  each_once : NamedOnce (length cs) es
  each_once i = valid.named_once i ∙ ap (λ n. cond (ltb i n) 1 0) (sym (components_count p))

  pub leaves_by : (allowance : ℕ) (stack : List Tree) (pairs : ℕ) → evaluate cs allowance es ≡ completed stack pairs → Leaves cs es stack pairs
  leaves_by allowance = method valid.positive allowance es entries_are each_once valid.find_two

  pub run_ends : (allowance : ℕ) → RunEnds cs es (walked p allowance) (evaluate cs allowance es)
  unfolding walked
  run_ends allowance = rw (evaluate_lists valid.positive allowance es) (go (evaluate cs allowance es) refl)
    where
      go : (v : Evaluation Tree) → evaluate cs allowance es ≡ v → RunEnds cs es (image (list_of cs) v) v
      go (refused k) q = stops (evaluate-refused cs allowance es k q)
      go (completed stack pairs) q =
          let left_over : Leaves cs es stack pairs = leaves_by allowance stack pairs q in
          let one : map (list_of cs) stack ≡ drive_list es cs ∷ [] = ap (map (list_of cs)) left_over.left ∙ ap (◌∷ []) left_over.list in
          rw one (leaves_one left_over)

  -- The drive's list has its speeds in range, and its numbers fit records.
  pub drive_fits : Fits (length cs) (drive_list es cs)
  drive_fits = fits_drive valid.in_range valid.balanced (every_map (λ c q. q.1) valid.totals) valid.positive es entries_are each_once valid.find_two

  pub drive_storable : Storable (drive_list es cs)
  drive_storable = fits_record drive_fits (omega (arith, components_count p, valid.most))

-- 13 and 14 are late.
pub late : (k : ℕ) → (k ≡ 13) ⊎ (k ≡ 14) → is_late k ≡ true
late k (inl e) = rw e
late k (inr e) = rw e

pub above : (k : ℕ) → (k ≡ 13) ⊎ (k ≡ 14) → 0 < k
above k (inl e) = omega arith
above k (inr e) = omega arith

-- ---- a call

pub ready : (s store : List ℕ) → first_broken (call_tests s (length store)) ≡ 0 → Runnable (plan_of s) store
ready s store z = let say = tests_say s (length store) z in record { valid = read_valid s say.0; enough = say.1 }

-- Past the tests, the run decides.
module _ (s : List ℕ) (allowance : ℕ) (store : List ℕ) {p : Plan} (z : 0 ≡ first_broken (call_tests s (length store))) (plan_is : p ≡ plan_of s) where
  pub runnable : Runnable p store
  runnable = rw plan_is (ready s store (sym z))

  module _ {own : Result (Unit {0}) Refusal} (o : own ≡ Ok (tt {0})) where
    ends : RunEnds (components s) (structure s) (walked p allowance) (ending_at (number_then s (length store) (number_in own)) s allowance)
    ends = rw (o, ← z, plan_is) (run_ends (ready s store (sym z)).valid allowance)

    pub run_refused : (r : Refusal) → ran_as (Err r) ≡ ran_of (walked p allowance) → refused_run (refusal_number r) ≡ sheet_run s (length store) (number_in own) allowance
    run_refused r = go ends
      where
        go : {w : Evaluation (List Focal)} {v : Evaluation Tree} → RunEnds (components s) (structure s) w v
            → ran_as (Err r) ≡ ran_of w → refused_run (refusal_number r) ≡ sheet_run_of v s
        go (stops l) e = ap (λ (x : Ran). refused_run x.number) e
        go (leaves_one l) e = absurd (omega (arith, positive r, ap (λ (x : Ran). x.number) e))

    pub run_accepted : {x : Run} → ran_as (Ok x) ≡ ran_of (walked p allowance) → {u : ℕ} → u ≡ total (components_of p)
        → record { number = 0; total = u; pairs = x.pairs; intervals = x.intervals } ≡ sheet_run s (length store) (number_in own) allowance
    run_accepted {x} e {u} f = go ends e (f ∙ ap (λ (q : Plan). total (components_of q)) plan_is)
      where
        go : {w : Evaluation (List Focal)} {v : Evaluation Tree} → RunEnds (components s) (structure s) w v
            → ran_as (Ok x) ≡ ran_of w → u ≡ total (components s) → record { number = 0; total = u; pairs = x.pairs; intervals = x.intervals } ≡ sheet_run_of v s
        go (stops {k = k} l) e f = absurd (omega (arith, above k l, ap (λ (y : Ran). y.number) e))
        go (leaves_one l) e f = λ i. record { number = 0; total = f i; pairs = (e i).pairs; intervals = (e i).intervals }

    pub run_stored : store_of (needed p) (walked p allowance) store ≡ store_then s (number_in own) allowance store
    run_stored = go ends
      where
        go : {w : Evaluation (List Focal)} {v : Evaluation Tree} → RunEnds (components s) (structure s) w v
            → store_of (needed p) w store ≡ store_by v (needed (plan_of s)) (sheet_list s) store
        go (stops {k = k} l) = rw (late k l)
        go (leaves_one l) = refl

-- A target whose test is not broken is 1 to 1,000.
pub target_inside : {target : ℕ} → Every Unbroken (target_tests target) → (1 ≤ target) × (target ≤ thousandths)
target_inside {target} (Every.more e r) = within-bounds 1 thousandths target e
