-- "Joins": a list stands in descending order of low, then of high (document 02, request five), no interval twice; equal intervals become
-- one. Assumes nothing.
use Prim.Native.Nat.{◌+◌, ◌<◌, compare, Ordering}
use Rattle.std.specs.Prelude.{◌≡◌, ◌⊎◌, List, [], ◌∷◌}
use Rattle.theory.specs.Sums.{Every}
use Rattle.theory.specs.Focal.{focal}
use Rattle.theory.specs.declared.Focal.{Focal}

-- Of two comparisons the first decides, and where it is "equal" the second.
abbrev pub lexically : Ordering → Ordering → Ordering
lexically Ordering.lt o = Ordering.lt
lexically Ordering.eq o = o
lexically Ordering.gt o = Ordering.gt

-- The order of intervals: by low, then by high, the greater first, so that g is compared with f.
abbrev pub order : Focal → Focal → Ordering
order f g = lexically (compare g.low f.low) (compare g.high f.high)

-- f comes strictly before g.
abbrev pub Before : Focal → Focal → Type 0
Before f g = (g.low < f.low) ⊎ ((g.low ≡ f.low) × (g.high < f.high))

-- In a list in order each interval comes strictly before every later one.
pub data InOrder : List Focal → Type 0 where
  none : InOrder []
  more : {f : Focal} {fs : List Focal} → Every (Before f) fs → InOrder fs → InOrder (f ∷ fs)

-- Equal intervals become one, weights added: f and the equal interval g.
abbrev pub merged : Focal → Focal → Focal
merged f g = focal g.low g.high (f.weight + g.weight)

-- A list in order with one interval more. `rest` is f inserted behind g.
abbrev pub inserted_at : Ordering → Focal → Focal → List Focal → List Focal → List Focal
inserted_at Ordering.lt f g gs rest = f ∷ g ∷ gs
inserted_at Ordering.eq f g gs rest = merged f g ∷ gs
inserted_at Ordering.gt f g gs rest = g ∷ rest

abbrev pub inserted : Focal → List Focal → List Focal
inserted f [] = f ∷ []
inserted f (g ∷ gs) = inserted_at (order f g) f g gs (inserted f gs)

-- Any intervals, made a list: in order, no interval twice.
abbrev pub collect : List Focal → List Focal
collect [] = []
collect (f ∷ fs) = inserted f (collect fs)
