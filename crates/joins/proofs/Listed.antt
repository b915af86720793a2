-- What a component lists, from its last interval to its first. Assumes nothing.
use mathlib.Core.Path.{◌≡◌, ap, ◌∙◌}
use mathlib.Core.List.{List, [], map}
use Prim.Native.Nat.{ℕ, suc, ◌-◌, ◌≤◌, ◌<◌}
use native.Mathlib.Omega.{arith}
use lib.ListN.{length, length-map}
use Rattle.theory.specs.Sums.{count_from}
use Rattle.theory.specs.Focal.{focal_at, listed}
use Rattle.theory.specs.declared.Focal.{Focal}
use Rattle.theory.specs.Order.{inserted, collect}
use Rattle.theory.specs.declared.Component.{Component}
use Rattle.theory.proofs.Sums.{length_count}
use Rattle.theory.proofs.Lists.{length-collect}

-- The intervals from place i on.
abbrev listed_from : Component → ℕ → List Focal
listed_from c i = map (focal_at c) (count_from i (c.count - i))

-- Their list.
abbrev pub collected : Component → ℕ → List Focal
collected c i = collect (listed_from c i)

-- There are n of them.
counted : (c : Component) (i n : ℕ) → c.count - i ≡ n → collected c i ≡ collect (map (focal_at c) (count_from i n))
counted c i n e = ap (λ (k : ℕ). collect (map (focal_at c) (count_from i k))) e

pub collected_none : (c : Component) → collected c c.count ≡ []
collected_none c = counted c c.count 0 (omega arith)

pub collected_all : (c : Component) → collected c 0 ≡ collect (listed c)
collected_all c = counted c 0 c.count (omega arith)

pub collected_next : (c : Component) (i : ℕ) → 0 < i → i ≤ c.count → collected c (i - 1) ≡ inserted (focal_at c (i - 1)) (collected c i)
collected_next c i low high =
    let back : suc (i - 1) ≡ i = omega arith in
    counted c (i - 1) (suc (c.count - i)) (omega arith)
    ∙ ap (λ (k : ℕ). inserted (focal_at c (i - 1)) (collect (map (focal_at c) (count_from k (c.count - i))))) back

pub collected_short : (c : Component) (i : ℕ) → length (collected c i) ≤ c.count - i
collected_short c i = omega (arith, length-collect (listed_from c i), length-map (count_from i (c.count - i)) (focal_at c), length_count i (c.count - i))
