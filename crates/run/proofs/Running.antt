-- A plan that keeps the rules runs into the store: what holds while `rest` of its entries is left. Assumes nothing.
use Prim.Native.Nat.{ℕ, zero, suc, ◌+◌, ◌-◌, ◌*◌, ◌≤◌, ◌<◌}
use mathlib.Core.Path.{◌≡◌, refl, sym, ap, ap₂, ◌∙◌}
use mathlib.Core.Bool.{Bool, true, false, false≢true}
use mathlib.Core.List.{List, [], ◌∷◌}
use Rattle.records.specs.declared.Span.{Span}
use Rattle.std.proofs.Common.{Result, Ok, Err}
use native.Mathlib.Numerals.{add-one}
use native.Mathlib.Omega.{arith}
use lib.Dec.{ltb}
use borrow.Author.Tests.{ltb-false, le-ltb}
use lib.ListN.{length, get_or, drop}
use Rattle.theory.specs.Sums.{Every}
use Rattle.theory.specs.Masses.{masses}
use Rattle.theory.specs.declared.Focal.{Focal}
use Rattle.theory.specs.declared.Entry.{Entry}
use Rattle.theory.specs.declared.Entry.TheVariants.{Component as component, Join as join}
use Rattle.theory.specs.Structure.{named, joins_find_two}
use Rattle.theory.specs.Order.{collect}
use Rattle.theory.specs.Lists.{no_component}
use Rattle.theory.specs.Evaluation.{Evaluation, completed, refused, refuse_if, walk_lists}
use Rattle.theory.specs.Limits.{most_held, most_masses, most_intervals, most_components, record_bytes, list_bytes}
use Rattle.theory.specs.declared.Component.{Component}
use Rattle.theory.specs.declared.Join.{Join}
use Rattle.theory.specs.declared.Refusal.{Refusal}
use Rattle.theory.specs.Refusals.{refusal_number}
use Rattle.theory.proofs.Every.{index_of_every}
use Rattle.theory.proofs.Structure.{named-length}
use Rattle.theory.proofs.Totals.{fits_pairs, fits_join, fits_weights, fits_leaf, Fits}
use Rattle.records.specs.Store.{holding_from, list_of_span, moved}
use Rattle.records.proofs.RecordLaws.{length-records}
use Rattle.records.proofs.Store.{list_in_from}
use Rattle.joins.specs.Filling.{Filled, fill}
use Rattle.joins.specs.Joins.{pairs_in}
use Rattle.joins.proofs.Filling.{filled_room}
use Rattle.joins.proofs.Answer.{fill_made}
use Rattle.plan.specs.declared.Plan.{Plan}
use Rattle.plan.specs.Plan.{components_of, entries_of}
use Rattle.plan.specs.Valid.{Known}
use Rattle.plan.proofs.Entries.{known_component, components_count}
use Rattle.run.specs.declared.Stack.{Stack}
use Rattle.run.specs.Stack.{empty_stack, list_at, lists_below, with_list, Pushable, pushed, pushed_store, top_span, top_joined, spent, Applicable, join_step, stack_then, join_store}
use Rattle.run.specs.Run.{needed, leaf_list, walked, Runnable}
use Rattle.run.proofs.Entries.{join_count, counted}
use Rattle.run.proofs.Stacked.{Stacked, none, more, Topmost, top_two_of, fits_record, length_leaf, short_leaf, short_join, records_most}
use Rattle.run.proofs.Placing.{Stored, records_below, records_are, ends_before, below_kept, stored_kept, on_top, stored_next}

-- What is left to walk on lists.
abbrev walk_on : Plan → ℕ → List Entry → List (List Focal) → ℕ → Evaluation (List Focal)
walk_on p allowance = walk_lists ◌*◌ allowance (leaf_list p)

pub record Running (p : Plan) (allowance : ℕ) (store₀ : List ℕ) (rest : List Entry) (store : List ℕ) (st : Stack) : Type 0 where
  pub stored : Stored (needed p) store₀ store st
  -- The stack holds lists over the components named so far, and so no more records than these make room for (`records_most`).
  pub held : ℕ
  pub lists : Stacked held (lists_below store st st.depth)
  pub height : st.depth ≤ held
  -- The entries left name components below n, have joins that find two lists, and leave one list.
  pub unnamed : held + length (named rest) ≡ p.count
  pub known : Every (Known p.count) rest
  pub balance : st.depth + length (named rest) ≡ join_count rest + 1
  pub two : joins_find_two rest st.depth ≡ true
  pub allowed : st.pairs ≤ allowance
  pub walks : walk_on p allowance rest (lists_below store st st.depth) st.pairs ≡ walked p allowance

every_first : {P : Entry → Type 0} {e : Entry} {es : List Entry} → Every P (e ∷ es) → P e × Every P es
every_first (Every.more h hs) = (h, hs)

module _ {p : Plan} {store₀ : List ℕ} (ready : Runnable p store₀) {allowance : ℕ} where
  pub starting : Running p allowance store₀ (entries_of p) store₀ empty_stack
  unfolding walked
  starting =
      let n : length (named (entries_of p)) ≡ p.count = named-length p.count (entries_of p) ready.valid.named_once in
      let j : join_count (entries_of p) + 1 ≡ p.count = omega (arith, counted (entries_of p), ready.valid.entries) in
      record {
        stored = record { places = refl; stand = λ k h. absurd (omega arith); behind = refl; same_length = refl; later = refl };
        held = 0;
        lists = none;
        height = omega arith;
        unnamed = omega arith;
        known = ready.valid.known;
        balance = omega arith;
        two = ready.valid.find_two;
        allowed = omega arith;
        walks = refl;
      }

  -- At the end the one list of the stack is what the walk leaves.
  pub finished : {store : List ℕ} {st : Stack} → Running p allowance store₀ [] store st
      → (st.depth ≡ 1) × (walked p allowance ≡ completed (list_at store st 0 ∷ []) st.pairs)
  finished {store = store} {st = st} running =
      let one : st.depth ≡ 1 = omega (arith, running.balance) in
      (one, sym (ap (λ d. completed (lists_below store st d) st.pairs) (sym one) ∙ running.walks))

  -- Behind the lists of up to six components there is room for one of 256 records.
  room_left : {rest : List Entry} {store : List ℕ} {st : Stack} → Running p allowance store₀ rest store st → (st.depth ≤ most_components) × (st.free + list_bytes ≤ needed p)
  room_left {store = store} {st = st} running =
      omega (arith, running.height, running.unnamed, ready.valid.most, running.stored.behind, records_are store st st.depth, records_most running.lists)

  -- ---- a component's entry
  module _ {store : List ℕ} {j : ℕ} {rest : List Entry} {st : Stack} (running : Running p allowance store₀ (component j ∷ rest) store st) where
    abbrev c : Component
    c = get_or (components_of p) j no_component

    pub component_below : j < p.count
    component_below = known_component (every_first running.known).0

    of_component : {P : Component → Type 0} → Every P (components_of p) → P c
    of_component h = index_of_every no_component h j (omega (arith, component_below, components_count p))

    fits : Fits 1 (collect (masses c))
    fits = fits_leaf c (of_component ready.valid.in_range) (omega (arith, of_component ready.valid.totals, of_component ready.valid.balanced))

    push_room : (st.depth < most_components) × (st.free + list_bytes ≤ needed p)
    push_room = omega (arith, room_left running, running.height, running.unnamed, ready.valid.most)

    pub pushable : Pushable store st
    pushable = record { place = push_room.0; room = omega (arith, push_room, ready.enough, running.stored.same_length) }

    -- It holds at most eight intervals.
    pub holds_eight : c.count ≤ most_held
    holds_eight = (of_component ready.valid.counts).1

    pub push_next : Running p allowance store₀ rest (pushed_store c store st) (pushed c st)
    push_next =
        let l : List Focal = collect (masses c) in
        let short : length l ≤ most_masses = length_leaf c holds_eight in
        let top : lists_below (pushed_store c store st) (pushed c st) (st.depth + 1) ≡ l ∷ lists_below store st st.depth =
        on_top running.stored ready.enough st.free l push_room.1 (omega arith) st.depth st.pairs (omega arith) running.stored.behind push_room.0
        (fits_record fits (omega arith)) in
        record {
          stored = stored_next running.stored ready.enough st.free l push_room.1 (omega arith) st.depth st.pairs (omega arith) running.stored.behind push_room.0;
          held = suc running.held;
          lists = rw top (more {k = suc running.held} fits (short_leaf c holds_eight) running.lists (omega arith));
          height = omega (arith, running.height);
          unnamed = omega (arith, running.unnamed);
          known = (every_first running.known).1;
          balance = omega (arith, running.balance);
          two = rw (add-one st.depth) running.two;
          allowed = running.allowed;
          walks = rw top running.walks;
        }

  -- ---- a join's entry
  module _ {store : List ℕ} {op : Join} {rest : List Entry} {st : Stack} (running : Running p allowance store₀ (join op ∷ rest) store st) where
    finds_two : (d : ℕ) → joins_find_two (join op ∷ rest) d ≡ true → (2 ≤ d) × (joins_find_two rest (d - 2 + 1) ≡ true)
    finds_two zero e = absurd (false≢true e)
    finds_two (suc zero) e = absurd (false≢true e)
    finds_two (suc (suc d)) e =
        let n : suc (suc d) - 2 + 1 ≡ suc d = omega arith in
        (omega arith, rw n e)

    two_there : 2 ≤ st.depth
    two_there = (finds_two st.depth running.two).0

    abbrev below : List (List Focal)
    below = lists_below store st (st.depth - 2)

    -- List k from the top.
    abbrev top : ℕ → List Focal
    top k = list_of_span store (top_span st k)

    split : lists_below store st st.depth ≡ top 1 ∷ top 2 ∷ below
    split =
        let a : st.depth ≡ suc (suc (st.depth - 2)) = omega (arith, two_there) in
        let b : suc (st.depth - 2) ≡ st.depth - 1 = omega (arith, two_there) in
        ap (lists_below store st) a ∙ ap (λ k. list_at store st k ∷ top 2 ∷ below) b

    top_two : Topmost running.held (top 2) (top 1) below
    top_two = top_two_of (rw split at running.lists)

    together : top_two.m + top_two.n ≤ most_components
    together = omega (arith, top_two.together, running.unnamed, ready.valid.most)

    pub applicable : Applicable op allowance store st
    applicable = record {
      two = two_there;
      place = (room_left running).0;
      allowed = running.allowed;
      short = ((running.stored.stand (st.depth - 2) (omega (arith, two_there))).1, (running.stored.stand (st.depth - 1) (omega (arith, two_there))).1);
      joinable = record {
        first = omega (arith, running.stored.behind, ends_before running.stored ready.enough (st.depth - 2) st.depth (omega (arith, two_there)) (omega arith));
        second = omega (arith, running.stored.behind, ends_before running.stored ready.enough (st.depth - 1) st.depth (omega (arith, two_there)) (omega arith));
        room = omega (arith, room_left running, ready.enough, running.stored.same_length);
        fits = fits_weights (fits_pairs op top_two.fits_left top_two.fits_right) together;
      };
    }

    -- The join's list, the pairs, and what is left to walk.
    abbrev list : List Focal
    list = top_joined op store st

    counts_are : (k : ℕ) → length (top k) ≡ (top_span st k).count
    counts_are k = length-records (top_span st k).count (drop (top_span st k).start store)

    at_join : walked p allowance
        ≡ refuse_if (ltb allowance (spent st)) 13 (refuse_if (ltb most_intervals (length list)) 14 (walk_on p allowance rest (list ∷ below) (spent st)))
    at_join =
        sym running.walks ∙ (ap (λ (ls : List (List Focal)). walk_on p allowance (join op ∷ rest) ls st.pairs) split
        ∙ ap₂ (λ m n. refuse_if (ltb allowance (st.pairs + m * n)) 13 (refuse_if (ltb most_intervals (length list)) 14 (walk_on p allowance rest (list ∷ below) (st.pairs + m * n))))
        (counts_are 2) (counts_are 1))

    -- It is formed behind the others; then it stands where the left one of the two stood.
    abbrev formed : List ℕ
    formed = holding_from store st.free list

    abbrev left : Span
    left = top_span st 2

    abbrev joined_stack : Stack
    joined_stack = with_list st (st.depth - 2) (record { start = left.start; count = length list }) (spent st)

    fits_list : Fits (top_two.m + top_two.n) list
    fits_list = fits_join op top_two.fits_left top_two.fits_right

    moves_there : moved formed (record { start = st.free; count = length list }) left.start ≡ holding_from formed left.start list
    moves_there =
        let u = fits_record fits_list together in
        ap (holding_from formed left.start) (list_in_from store st.free list (omega (arith, room_left running, ready.enough, running.stored.same_length)) u.0 u.1)

    join_next : spent st ≤ allowance → length list ≤ most_intervals → Running p allowance store₀ rest (holding_from formed left.start list) joined_stack
    join_next a b =
        let d : ℕ = st.depth - 2 in
        let place : d < most_components = omega (arith, room_left running, two_there) in
        let stored : Stored (needed p) store₀ formed st = stored_kept running.stored ready.enough st.free list (room_left running).1 b in
        let start : left.start ≡ record_bytes * records_below st d = (running.stored.stand d (omega (arith, two_there))).0 in
        let room : left.start + list_bytes ≤ needed p = omega (arith, applicable.joinable.first, room_left running) in
        let on : lists_below (holding_from formed left.start list) joined_stack (d + 1) ≡ list ∷ below =
        on_top stored ready.enough left.start list room b d (spent st) (omega arith) start place (fits_record fits_list together)
        ∙ ap (list ∷◌) (below_kept running.stored ready.enough st.free list (room_left running).1 b d (omega arith) (omega (arith, start, applicable.joinable.first))) in
        record {
          stored = stored_next stored ready.enough left.start list room b d (spent st) (omega arith) start place;
          held = running.held;
          lists = rw on (more fits_list (short_join op top_two.short_left top_two.short_right b) top_two.stacked top_two.together);
          height = omega (arith, running.height, two_there);
          unnamed = running.unnamed;
          known = (every_first running.known).1;
          balance = omega (arith, running.balance, two_there);
          two = (finds_two st.depth running.two).1;
          allowed = a;
          walks = rw on (sym (at_join ∙ rw (le-ltb allowance (spent st) a, le-ltb most_intervals (length list) b) refl));
        }

    -- As the join ends, the run goes on, or the walk is refused with its number, and the bytes behind those that the plan needs are as they were.
    abbrev Out : Result (Unit {0}) Refusal → Stack → List ℕ → Type 0
    Out (Ok x) t after = Running p allowance store₀ rest after t
    Out (Err refusal) t after = (walked p allowance ≡ refused (refusal_number refusal)) × (drop (needed p) after ≡ drop (needed p) store₀)

    -- What the join fills in.
    abbrev made : Filled
    made = fill [] (pairs_in op store (top_span st 2) (top_span st 1))

    made_room : length made.list ≤ most_intervals
    made_room = filled_room [] (pairs_in op store (top_span st 2) (top_span st 1)) (omega arith)

    pub join_out : {r : Result (Unit {0}) Refusal} {t : Stack} {after : List ℕ} → r ≡ join_step op allowance store st → t ≡ stack_then op allowance store st
        → after ≡ join_store op allowance store st → Out r t after
    join_out e f g = rw (e, f, g) (go (ltb allowance (spent st)) refl (ltb most_intervals (length list)) refl)
      where
        go : (a : Bool) → ltb allowance (spent st) ≡ a → (b : Bool) → ltb most_intervals (length list) ≡ b
            → Out (join_step op allowance store st) (stack_then op allowance store st) (join_store op allowance store st)
        go true x b y = rw x (at_join ∙ rw x, running.stored.later)
        go false x true y = rw (x, y) (at_join ∙ rw (x, y), (stored_kept running.stored ready.enough st.free made.list (room_left running).1 made_room).later)
        go false x false y =
            let b : length list ≤ most_intervals = ltb-false most_intervals (length list) y in
            rw (x, y, fill_made (pairs_in op store (top_span st 2) (top_span st 1)) b, moves_there) (join_next (ltb-false allowance (spent st) x) b)
