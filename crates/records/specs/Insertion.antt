-- "Joins": the place of an interval in a list, and one interval put into a list that stands in a buffer. Assumes nothing.
use Prim.Native.Nat.{ℕ, suc, ◌+◌, ◌^◌, ◌≤◌, ◌<◌, Ordering}
use Rattle.std.specs.Prelude.{Bool, true, false, cond, Result, Ok, Err, List, [], ◌∷◌, leb, length}
use Rattle.theory.specs.Focal.{weights}
use Rattle.theory.specs.declared.Focal.{Focal}
use Rattle.theory.specs.Order.{order, InOrder, inserted}
use Rattle.theory.specs.Limits.{most_intervals, list_bytes}
use Rattle.records.specs.Records.{records}

-- Whether an answer of `order` is "before".
abbrev pub is_before : Ordering → Bool
is_before Ordering.lt = true
is_before Ordering.eq = false
is_before Ordering.gt = false

-- The place of an interval in a list: behind each interval that comes before it.
abbrev pub place : Focal → List Focal → ℕ
place f [] = 0
place f (g ∷ gs) = cond (is_before (order g f)) (suc (place f gs)) 0

-- What an insertion answers: the place; as an error, for a 257th interval.
abbrev pub insertion_of : Focal → List Focal → Result ℕ ℕ
insertion_of f l = cond (leb (length (inserted f l)) most_intervals) (Ok (place f l)) (Err (place f l))

-- A list has at most 256 intervals: a 257th leaves it as it is.
abbrev pub insert_or_stay : Focal → List Focal → List Focal
insert_or_stay f l = cond (leb (length (inserted f l)) most_intervals) (inserted f l) l

-- The first n records of s are a list that can take one interval more of this weight.
pub record Insertable (s : List ℕ) (n weight : ℕ) : Type 0 where
  pub count : n ≤ most_intervals
  pub room : list_bytes ≤ length s
  pub ordered : InOrder (records n s)
  pub fits : weights (records n s) + weight < 2 ^ 64
