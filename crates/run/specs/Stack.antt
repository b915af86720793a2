-- The stack (document 01: the pile) of lists in the store, and what one entry does to it. Assumes nothing.
use Rattle.std.specs.Prelude.{ℕ, zero, suc, ◌+◌, ◌-◌, ◌*◌, ◌≤◌, ◌<◌, cond, Result, Ok, Err, List, [], ◌∷◌, ltb, length, get_or, set, replicate}
use Rattle.theory.specs.Masses.{masses}
use Rattle.theory.specs.declared.Focal.{Focal}
use Rattle.theory.specs.Order.{collect}
use Rattle.theory.specs.Limits.{most_intervals, most_components, record_bytes, list_bytes}
use Rattle.theory.specs.declared.Component.{Component}
use Rattle.theory.specs.declared.Join.{Join}
use Rattle.theory.specs.declared.Refusal.{Refusal}
use Rattle.theory.specs.declared.Refusal.TheVariants.{Allowance, ListLength}
use Rattle.records.specs.declared.Span.{Span}
use Rattle.records.specs.Store.{list_of_span, holding_from, moved}
use Rattle.joins.specs.Joins.{join_in, joined_store, Joinable}
use Rattle.run.specs.declared.Stack.{Stack}

-- No list.
abbrev pub no_span : Span
no_span = record { start = 0; count = 0 }

-- The stack at the start: no lists, no pairs.
abbrev pub empty_stack : Stack
empty_stack = record { lists = replicate most_components no_span; depth = 0; free = 0; pairs = 0 }

-- Where list k of the stack stands, counted from the bottom; and the list.
abbrev pub span_at : Stack → ℕ → Span
span_at st k = get_or st.lists k no_span

abbrev pub list_at : List ℕ → Stack → ℕ → List Focal
list_at store st k = list_of_span store (span_at st k)

-- The lowest d lists, topmost first.
abbrev pub lists_below : List ℕ → Stack → ℕ → List (List Focal)
lists_below store st zero = []
lists_below store st (suc d) = list_at store st d ∷ lists_below store st d

-- The stack with another topmost list, at place d; the free rest is then behind it.
abbrev pub with_list : Stack → ℕ → Span → ℕ → Stack
with_list st d list pairs =
    record { lists = set st.lists d list; depth = d + 1; free = list.start + record_bytes * list.count; pairs = pairs }

-- A component's entry: its list goes behind the others.
abbrev pub pushed : Component → Stack → Stack
pushed c st = with_list st st.depth (record { start = st.free; count = length (collect (masses c)) }) st.pairs

abbrev pub pushed_store : Component → List ℕ → Stack → List ℕ
pushed_store c store st = holding_from store st.free (collect (masses c))

-- It asks for a place on the stack, and for room for a list.
pub record Pushable (store : List ℕ) (st : Stack) : Type 0 where
  pub place : st.depth < most_components
  pub room : st.free + list_bytes ≤ length store

-- Where list k from the top stands, the topmost being 1.
abbrev pub top_span : Stack → ℕ → Span
top_span st k = span_at st (st.depth - k)

-- The list of the join of the two topmost, and the pairs so far with those of this join.
abbrev pub top_joined : Join → List ℕ → Stack → List Focal
top_joined op store st = join_in op store (top_span st 2) (top_span st 1)

abbrev pub spent : Stack → ℕ
spent st = st.pairs + (top_span st 2).count * (top_span st 1).count

-- A join's entry: 13, the pairs exceed the allowance; 14, its list has more than 256 different intervals;
abbrev pub join_step : Join → ℕ → List ℕ → Stack → Result (Unit {0}) Refusal
join_step op allowance store st =
    cond (ltb allowance (spent st)) (Err Allowance)
    (cond (ltb most_intervals (length (top_joined op store st))) (Err ListLength)
    (Ok tt))

-- else its list stands for the two, in the left one's place.
abbrev pub stack_then : Join → ℕ → List ℕ → Stack → Stack
stack_then op allowance store st =
    cond (ltb allowance (spent st)) st
    (cond (ltb most_intervals (length (top_joined op store st))) st
    (with_list st (st.depth - 2) (record { start = (top_span st 2).start; count = length (top_joined op store st) }) (spent st)))

-- Its list is formed behind the others, as far as it goes in, and then moved to the left one's place.
abbrev pub formed_store : Join → List ℕ → Stack → List ℕ
formed_store op store st = joined_store op store (top_span st 2) (top_span st 1) st.free

abbrev pub join_store : Join → ℕ → List ℕ → Stack → List ℕ
join_store op allowance store st =
    cond (ltb allowance (spent st)) store
    (cond (ltb most_intervals (length (top_joined op store st))) (formed_store op store st)
    (moved (formed_store op store st) (record { start = st.free; count = length (top_joined op store st) }) (top_span st 2).start))

-- It asks for two lists that can be joined into the free rest, and pairs within the allowance so far.
pub record Applicable (op : Join) (allowance : ℕ) (store : List ℕ) (st : Stack) : Type 0 where
  pub two : 2 ≤ st.depth
  pub place : st.depth ≤ most_components
  pub allowed : st.pairs ≤ allowance
  pub short : ((top_span st 2).count ≤ most_intervals) × ((top_span st 1).count ≤ most_intervals)
  pub joinable : Joinable op store (top_span st 2) (top_span st 1) st.free
