-- "Joins": the join of two lists that stand in a store, its list in the free rest. Assumes nothing.
use Rattle.std.specs.Prelude.{ℕ, ◌+◌, ◌*◌, ◌^◌, ◌≤◌, ◌<◌, cond, Result, Ok, Err, List, [], leb, ltb, length}
use Rattle.theory.specs.Sums.{Every}
use Rattle.theory.specs.Focal.{listed, weights}
use Rattle.theory.specs.declared.Focal.{Focal}
use Rattle.theory.specs.Masses.{rest}
use Rattle.theory.specs.declared.Component.{Component}
use Rattle.theory.specs.declared.Join.{Join}
use Rattle.theory.specs.declared.Refusal.{Refusal}
use Rattle.theory.specs.declared.Refusal.TheVariants.{ListLength}
use Rattle.theory.specs.Joins.{pairs}
use Rattle.theory.specs.Order.{collect}
use Rattle.theory.specs.Lists.{join_lists}
use Rattle.theory.specs.Limits.{most_intervals, record_bytes, list_bytes}
use Rattle.records.specs.Records.{Under, speed_limit}
use Rattle.records.specs.declared.Span.{Span}
use Rattle.records.specs.Store.{list_of_span, holding_from}
use Rattle.joins.specs.Filling.{fill}

-- Records hold what a component lists, and the rest besides.
abbrev pub RestFits : Component → Type 0
RestFits c = Every (Under speed_limit) (collect (listed c)) × (weights (collect (listed c)) + rest c < 2 ^ 64)

-- What a join answers whose list is l: its length, or the refusal 14.
abbrev pub joined_as : List Focal → Result ℕ Refusal
joined_as l = cond (leb (length l) most_intervals) (Ok (length l)) (Err ListLength)

-- The list's length as document 01 has it: 0 where the join is refused.
abbrev pub join_length : Result ℕ Refusal → ℕ
join_length (Ok n) = n
join_length (Err refusal) = 0

-- The number of a join whose list is l: 14 where that has more than 256 different intervals.
abbrev pub number_of_join : List Focal → ℕ
number_of_join l = cond (ltb most_intervals (length l)) 14 0

-- The length that a join answers whose list is l.
abbrev pub length_of_join : List Focal → ℕ
length_of_join l = cond (ltb most_intervals (length l)) 0 (length l)

-- The pairs of two lists of a store.
abbrev pub pairs_in : Join → List ℕ → Span → Span → List Focal
pairs_in op s left right = pairs op (list_of_span s left) (list_of_span s right)

-- The list of their join.
abbrev pub join_in : Join → List ℕ → Span → Span → List Focal
join_in op s left right = join_lists op (list_of_span s left) (list_of_span s right)

-- The store after their join: its list, as far as it was filled, stands from byte `free` on.
abbrev pub joined_store : Join → List ℕ → Span → Span → ℕ → List ℕ
joined_store op s left right free = holding_from s free (fill [] (pairs_in op s left right)).list

-- Two lists of a store that can be joined into its rest from byte `free` on.
pub record Joinable (op : Join) (s : List ℕ) (left right : Span) (free : ℕ) : Type 0 where
  pub first : left.start + record_bytes * left.count ≤ free
  pub second : right.start + record_bytes * right.count ≤ free
  pub room : free + list_bytes ≤ length s
  pub fits : weights (pairs_in op s left right) < 2 ^ 64
