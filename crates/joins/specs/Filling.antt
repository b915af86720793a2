-- A list built by one insertion after the other. Assumes nothing.
use Rattle.std.specs.Prelude.{ℕ, cond, Option, Some, None, List, [], ◌∷◌, leb, length}
use Rattle.theory.specs.declared.Focal.{Focal}
use Rattle.theory.specs.Order.{inserted}
use Rattle.theory.specs.Limits.{most_intervals}

-- All of ps inserted into l one after the other, stopped before a 257th interval: the list as it then is, and its length, or 257 where
-- it was stopped.
pub record Filled : Type 0 where
  pub list : List Focal
  pub count : ℕ

abbrev pub fill : List Focal → List Focal → Filled
fill l [] = record { list = l; count = length l }
fill l (p ∷ ps) = cond (leb (length (inserted p l)) most_intervals) (fill (inserted p l) ps) (record { list = l; count = length (inserted p l) })

-- Its length where all of ps went in, else nothing.
abbrev pub length_of_filled : Filled → Option ℕ
length_of_filled f = cond (leb f.count most_intervals) (Some f.count) None
