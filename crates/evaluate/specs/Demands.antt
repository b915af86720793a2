-- The three demands, as statements about what the contracts of the calls, the reader and the writer name: `answer`, `store_after`, `speed_answer`,
-- `speed_store_after`, `set_answer`, `set_store_after`, `shares_after`, `read_of`, `written_of`, `bytes_after`. They are proved in proofs/Demands.antt,
-- proofs/SpeedMet.antt, proofs/SetMet.antt and proofs/LongerStore.antt; what the reader decides by itself is reading's `Decided`. Assumes nothing.
use Rattle.std.specs.Prelude.{ℕ, ◌+◌, ◌*◌, ◌^◌, ◌≤◌, ◌<◌, ◌≡◌, ◌⊎◌, ◌↔◌, List, [], ◌∷◌, ◌++◌, length, take, drop, get_or}
use Rattle.theory.specs.Sums.{Every}
use Rattle.theory.specs.Masses.{masses, total, AllDistinct, Balanced}
use Rattle.theory.specs.Rest.{RestAdded}
use Rattle.theory.specs.Focal.{weights, InRange, Positive}
use Rattle.theory.specs.Structure.{Tree, trees}
use Rattle.theory.specs.Choices.{choices, belief, plausibility, weight_at, Spans}
use Rattle.theory.specs.Order.{InOrder}
use Rattle.theory.specs.Lists.{list_of, total_of}
use Rattle.theory.specs.Evaluation.{pair_count, completed, refused}
use Rattle.theory.specs.Bounds.{Bounds, Antitone}
use Rattle.theory.specs.Speed.{GreatestDemand}
use Rattle.theory.specs.Limits.{top_speed, most_masses, most_total, most_components, thousandths, most_demands}
use Rattle.numbers.specs.Numbers.{Bytes, number_at}
use Rattle.records.specs.Records.{records}
use Rattle.plan.specs.declared.Plan.{Plan}
use Rattle.plan.specs.Tests.{Test, Unbroken, First}
use Rattle.plan.specs.Plan.{cleaned_plan}
use Rattle.reading.specs.Reading.{read_of}
use Rattle.writing.specs.Writing.{Written, writer_tests, written_of, bytes_after, IgnoresUnused}
use Rattle.records.specs.Store.{settled}
use Rattle.run.specs.Run.{needed, cleared}
use Rattle.queries.specs.Shares.{shares_bytes}
use Rattle.evaluate.specs.Answer.{Answer, plan_of, components, structure, sheet_outcomes, sheet_list, call_tests, evaluated, refusal, answer}
use Rattle.evaluate.specs.Store.{store_after}
use Rattle.evaluate.specs.SheetRun.{SheetRun, refused_run, without_shares}
use Rattle.evaluate.specs.Speed.{SpeedAnswer, speed_tests, speed_answer, speed_store_after}
use Rattle.evaluate.specs.Set.{set_tests, set_answer, set_store_after, shares_after}

-- No rule is broken: none of a call's tests, and the plan runs past every join without 13 or 14.
pub record Passed (tests : List Test) (s : List ℕ) (allowance : ℕ) : Type 0 where
  pub unbroken : Every Unbroken tests
  pub stack : List Tree
  pub pairs : ℕ
  pub runs : evaluated s allowance ≡ completed stack pairs

-- The number k is that of the first rule that is broken: of the tests, each looking at everything before the next; then 13 or 14 at a
-- join, as the evaluation looks for them.
pub data Broken (tests : List Test) (s : List ℕ) (allowance : ℕ) : ℕ → Type 0 where
  by_test : {k : ℕ} → First tests k → Broken tests s allowance k
  by_join : {k : ℕ} → Every Unbroken tests → (k ≡ 13) ⊎ (k ≡ 14) → evaluated s allowance ≡ refused k → Broken tests s allowance k

-- Demand 1, for every call on a sheet s with these tests: the number answered, and the store before and after.
module _ (tests : List Test) (s : List ℕ) (allowance number : ℕ) (store after : List ℕ) where
  pub record Demand-1 : Type 0 where
    -- It is accepted exactly when no rule is broken; otherwise it has the one number of the first that is.
    pub accepted : (number ≡ 0) ↔ Passed tests s allowance
    pub refused_by : (k : ℕ) → 0 < k → (number ≡ k) ↔ Broken tests s allowance k
    -- The store has the drive's list and zeros after acceptance, zeros after 13 and 14, and is otherwise as it was.
    pub store_accepted : number ≡ 0 → after ≡ settled (needed (plan_of s)) (sheet_list s) store
    pub store_late : (k : ℕ) → (k ≡ 13) ⊎ (k ≡ 14) → number ≡ k → after ≡ cleared (needed (plan_of s)) store
    pub store_kept : (k : ℕ) → 0 < k → (k ≡ 13 → ⊥) → (k ≡ 14 → ⊥) → number ≡ k → after ≡ store

-- Demand 2, for every accepted call on a sheet s: what it answers beside the shares, the store after it, and the two shares at each
-- demand that is asked, which is `demand_at i` for an i of I.
module _ {I : Type 0} (s : List ℕ) (allowance : ℕ) (answered : SheetRun) (after : List ℕ) (demand_at belief_at plausibility_at : I → ℕ) where
  pub record Demand-2 : Type 0 where
    -- Each component's mass assignment has up to nine focal elements, each once, so that none is chosen twice; their weights add to T; and the rest
    -- is one of them or added to one.
    pub masses_most : Every (λ c. length (masses c) ≤ most_masses) (components s)
    pub masses_once : AllDistinct (components s)
    pub masses_whole : Balanced (components s)
    pub masses_rest : Every RestAdded (components s)
    -- The answers are those of the sum over all choices, the shares at every demand.
    pub total_is : answered.total ≡ total (components s)
    pub belief_is : (i : I) → belief_at i ≡ belief (demand_at i) (sheet_outcomes s)
    pub plausibility_is : (i : I) → plausibility_at i ≡ plausibility (demand_at i) (sheet_outcomes s)
    -- Of two demands the greater never has the greater belief or the greater plausibility.
    pub belief_antitone : Antitone demand_at belief_at
    pub plausibility_antitone : Antitone demand_at plausibility_at
    -- U is at most 10 to the 18th.
    pub total_most : answered.total ≤ most_total ^ most_components
    -- Each outcome is the least interval that has all speeds of its choice (source 002, definition 2.3).
    pub spans : Every (Spans (structure s)) (choices (components s))
    -- The list in the store is the drive's: it is read back from there.
    pub list_length : answered.intervals ≡ length (sheet_list s)
    pub list_read : records answered.intervals after ≡ sheet_list s
    -- It is in order, has no weight 0, and has at each interval the weights of the outcomes that are this interval: U in all.
    pub list_ordered : InOrder (sheet_list s)
    pub list_positive : Every Positive (sheet_list s)
    pub list_weight : (low high : ℕ) → weight_at low high (sheet_list s) ≡ weight_at low high (sheet_outcomes s)
    pub list_weights : weights (sheet_list s) ≡ answered.total
    -- Its shares are the answers, at every demand.
    pub list_belief : (i : I) → belief (demand_at i) (sheet_list s) ≡ belief_at i
    pub list_plausibility : (i : I) → plausibility (demand_at i) (sheet_list s) ≡ plausibility_at i
    -- Each sub-structure's list, a leaf's and a join's, is in order, and its weights add to the product of the totals under it.
    pub lists_ordered : (t : Tree) → InOrder (list_of (components s) t)
    pub lists_weights : (t : Tree) → weights (list_of (components s) t) ≡ total_of (components s) t
    -- No speed of the drive's list or of any sub-structure's is above 4,095, so nothing meets a demand above it.
    pub list_in_range : Every InRange (sheet_list s)
    pub lists_in_range : (t : Tree) → Every InRange (list_of (components s) t)
    pub above_top : (i : I) → top_speed < demand_at i → (belief_at i ≡ 0) × (plausibility_at i ≡ 0)
    -- The pairs are those of the joins of the one tree that the structure builds.
    pub tree : Tree
    pub built : trees (structure s) ≡ tree ∷ []
    pub pairs_are : answered.pairs ≡ pair_count (components s) tree
    pub pairs_most : answered.pairs ≤ allowance

-- Demand 3, for every accepted call on a sheet s: belief and plausibility, at each demand that is asked, over the total answered, bound the
-- share of every division and are met.
abbrev pub Demand-3 : {I : Type 0} → List ℕ → SheetRun → (demand_at belief_at plausibility_at : I → ℕ) → Type 0
Demand-3 s answered demand_at belief_at plausibility_at = Bounds (structure s) (components s) answered.total demand_at belief_at plausibility_at

-- An ordinary call on the sheet s.
module _ (s : List ℕ) (demand allowance : ℕ) (store : List ℕ) where
  -- Its answer at a demand d, and at the one asked for.
  abbrev pub answer_at : ℕ → Answer
  answer_at d = answer s d allowance (length store)

  abbrev pub answered : Answer
  answered = answer_at demand

  -- The three demands on it, the shares as functions of the demand. A refusal has zeros beside its number.
  pub record DemandsMet : Type 0 where
    pub first : Demand-1 (call_tests s (length store)) s allowance answered.number store (store_after s allowance store)
    pub zeros : (k : ℕ) → 0 < k → answered.number ≡ k → answered ≡ refusal k
    pub second : answered.number ≡ 0
        → Demand-2 s allowance (without_shares answered) (store_after s allowance store) (λ d. d) (λ d. (answer_at d).belief) (λ d. (answer_at d).plausibility)
    pub third : answered.number ≡ 0
        → Demand-3 s (without_shares answered) (λ d. d) (λ d. (answer_at d).belief) (λ d. (answer_at d).plausibility)

-- A call for a speed on the sheet s.
module _ (s : List ℕ) (target allowance : ℕ) (store : List ℕ) where
  abbrev pub speed_answered : SpeedAnswer
  speed_answered = speed_answer s target allowance (length store)

  -- Belief as a function of the demand, by the ordinary call.
  abbrev pub belief_at : ℕ → ℕ
  belief_at d = (answer s d allowance (length store)).belief

  pub record SpeedMet : Type 0 where
    -- Demand 1, with 16 behind 12: it says that no test of an ordinary call is broken and the target is not 1 to 1,000. A refusal has zeros
    -- beside its number, the speed too.
    pub first : Demand-1 (speed_tests s target (length store)) s allowance speed_answered.answer.number store (speed_store_after s target allowance store)
    pub sixteen : (speed_answered.answer.number ≡ 16) ↔ (Every Unbroken (call_tests s (length store)) × ((target < 1) ⊎ (thousandths < target)))
    pub zeros : (k : ℕ) → 0 < k → speed_answered.answer.number ≡ k → speed_answered.answer ≡ refusal k
    pub speed_zero : (k : ℕ) → 0 < k → speed_answered.answer.number ≡ k → speed_answered.speed ≡ 0
    -- But for 16 the other answers and the store are those of an ordinary call with that speed as its demand: where it is accepted,
    -- demands 2 and 3 hold of them.
    pub as_ordinary : (speed_answered.answer.number ≡ 16 → ⊥) → speed_answered.answer ≡ answer s speed_answered.speed allowance (length store)
    pub store_as_ordinary : (speed_answered.answer.number ≡ 16 → ⊥) → speed_store_after s target allowance store ≡ store_after s allowance store
    -- The speed of an accepted call is the greatest of all demands that meet the target, and no other number is.
    pub greatest : speed_answered.answer.number ≡ 0 → GreatestDemand target speed_answered.answer.total belief_at speed_answered.speed
    pub no_other : speed_answered.answer.number ≡ 0 → (v : ℕ) → GreatestDemand target speed_answered.answer.total belief_at v → v ≡ speed_answered.speed
    -- It is at most 4,095.
    pub speed_most : speed_answered.speed ≤ top_speed

-- A place of a set of demands, and the demand there.
abbrev pub Place : List ℕ → Type 0
Place demands = (i : ℕ) × (i < length demands)

abbrev pub demand_of : (demands : List ℕ) → Place demands → ℕ
demand_of demands p = get_or demands p.0 0

-- A call for a set of demands on the sheet s.
module _ (s demands : List ℕ) (allowance : ℕ) (store shares : List ℕ) where
  abbrev pub set_answered : SheetRun
  set_answered = set_answer s demands allowance (length store) (length shares)

  -- Store and shares' buffer afterwards.
  abbrev pub set_store : List ℕ
  set_store = set_store_after s demands allowance store (length shares)

  abbrev pub shares_then : List ℕ
  shares_then = shares_after s demands allowance (length store) shares

  -- The two numbers that the buffer then has at a place.
  abbrev pub belief_of : Place demands → ℕ
  belief_of p = number_at shares_then (shares_bytes * p.0) 8

  abbrev pub plausibility_of : Place demands → ℕ
  plausibility_of p = number_at shares_then (shares_bytes * p.0 + 8) 8

  pub record SetMet : Type 0 where
    -- Demand 1, with 17 and 18 behind 12: each says that no test before it is broken and its own is. A refusal has zeros beside its number
    -- and leaves the shares' buffer.
    pub first : Demand-1 (set_tests s demands (length store) (length shares)) s allowance set_answered.number store set_store
    pub seventeen : (set_answered.number ≡ 17)
        ↔ (Every Unbroken (call_tests s (length store)) × ((length demands < 1) ⊎ (most_demands < length demands)))
    pub eighteen : (set_answered.number ≡ 18)
        ↔ (Every Unbroken (call_tests s (length store)) × ((1 ≤ length demands) × (length demands ≤ most_demands)) × (length shares < shares_bytes * length demands))
    pub zeros : (k : ℕ) → 0 < k → set_answered.number ≡ k → set_answered ≡ refused_run k
    pub shares_kept : (k : ℕ) → 0 < k → set_answered.number ≡ k → shares_then ≡ shares
    -- The bytes behind the last pair are as they were.
    pub later_kept : drop (shares_bytes * length demands) shares_then ≡ drop (shares_bytes * length demands) shares
    -- But for 17 and 18 the answers and the store are those of an ordinary call, at any demand.
    pub as_ordinary : (set_answered.number ≡ 17 → ⊥) → (set_answered.number ≡ 18 → ⊥) → (d : ℕ) → set_answered ≡ without_shares (answer s d allowance (length store))
    pub store_as_ordinary : (set_answered.number ≡ 17 → ⊥) → (set_answered.number ≡ 18 → ⊥) → set_store ≡ store_after s allowance store
    -- Accepted, demands 2 and 3 hold at every demand of the set.
    pub second : set_answered.number ≡ 0 → Demand-2 s allowance set_answered set_store (demand_of demands) belief_of plausibility_of
    pub third : set_answered.number ≡ 0 → Demand-3 s set_answered (demand_of demands) belief_of plausibility_of

-- A store that is longer than the plan needs: the further bytes change no answer of the three calls, and stay as they were.
module _ (s : List ℕ) (allowance : ℕ) (store further : List ℕ) (enough : needed (plan_of s) ≤ length store) where
  abbrev pub longer : List ℕ
  longer = store ++ further

  pub record LongerStore : Type 0 where
    pub same_answer : (demand : ℕ) → answer s demand allowance (length longer) ≡ answer s demand allowance (length store)
    pub same_store : store_after s allowance longer ≡ store_after s allowance store ++ further
    pub same_speed : (target : ℕ) → speed_answer s target allowance (length longer) ≡ speed_answer s target allowance (length store)
    pub same_speed_store : (target : ℕ) → speed_store_after s target allowance longer ≡ speed_store_after s target allowance store ++ further
    pub same_set : (demands : List ℕ) (bytes : ℕ) → set_answer s demands allowance (length longer) bytes ≡ set_answer s demands allowance (length store) bytes
    pub same_set_store : (demands : List ℕ) (bytes : ℕ) → set_store_after s demands allowance longer bytes ≡ set_store_after s demands allowance store bytes ++ further
    pub same_shares : (demands shares : List ℕ) → shares_after s demands allowance (length longer) shares ≡ shares_after s demands allowance (length store) shares

-- Demand 1 for the writer, for every plan and buffer: its tests decide in the same way; refused it writes nothing, accepted it leaves the
-- bytes behind the sheet; no sheet is longer than 224 bytes, and unused places are ignored.
module _ (p : Plan) (buffer : List ℕ) where
  -- What the writer answers.
  abbrev pub result : Written
  result = written_of p (length buffer)

  pub record Writer : Type 0 where
    pub accepted : (result.number ≡ 0) ↔ Every Unbroken (writer_tests p (length buffer))
    pub refused_by : (k : ℕ) → 0 < k → (result.number ≡ k) ↔ First (writer_tests p (length buffer)) k
    pub nothing_written : (k : ℕ) → 0 < k → result.number ≡ k → (result.length ≡ 0) × (bytes_after p buffer ≡ buffer)
    pub rest_kept : result.number ≡ 0 → drop result.length (bytes_after p buffer) ≡ drop result.length buffer
    pub longest : result.number ≡ 0 → result.length ≤ 224
    pub ignores_unused : IgnoresUnused p buffer

-- Demand 2, the sheets: a written sheet reads as its plan, in the used places, and a read one, of bytes, is written back to its bytes.
pub record RoundTrips : Type 0 where
  pub written_reads : (p : Plan) (buffer : List ℕ) → (result p buffer).number ≡ 0
      → read_of (take (result p buffer).length (bytes_after p buffer)) ≡ record { number = 0; plan = cleaned_plan p }
  pub read_writes : (s buffer : List ℕ) → Bytes s → Bytes buffer → (read_of s).number ≡ 0 → length s ≤ length buffer
      → (result (plan_of s) buffer ≡ record { number = 0; length = length s }) × (bytes_after (plan_of s) buffer ≡ s ++ drop (length s) buffer)
