-- The lists of a stack, each over some components: speeds are in range, and weights and lengths stay below bounds that go by their number.
-- Assumes nothing.
use Prim.Native.Nat.{ℕ, ◌+◌, ◌*◌, ◌≤◌}
use mathlib.Core.Path.{◌≡◌}
use mathlib.Core.List.{List, [], ◌∷◌}
use native.Mathlib.Decide.{ℕ_discrete}
use native.Mathlib.Nat.{mul-le-mul}
use native.Mathlib.Omega.{arith}
use lib.ListN.{length}
use Rattle.theory.specs.Masses.{masses}
use Rattle.theory.specs.declared.Focal.{Focal}
use Rattle.theory.specs.Order.{collect}
use Rattle.theory.specs.Lists.{join_lists}
use Rattle.theory.specs.Limits.{most_held, most_masses, most_intervals, most_components}
use Rattle.theory.specs.Sums.{sum_by}
use Rattle.theory.specs.declared.Component.{Component}
use Rattle.theory.specs.declared.Join.{Join}
use Rattle.theory.proofs.Every.{every_map}
use Rattle.theory.proofs.Lists.{length-collect, length-join}
use Rattle.theory.proofs.Masses.{length-masses}
use Rattle.theory.proofs.Totals.{fits_weights, Fits}
use Rattle.records.specs.Records.{Storable}

-- A list over m components has at most a third of 256 for each of them: nine over one, 81 over two, 256 over more.
pub record Short (m : ℕ) (l : List Focal) : Type 0 where
  pub some : 1 ≤ m
  pub over_one : m ≤ 1 → length l ≤ most_masses
  pub third : 3 * length l ≤ most_intervals * m

-- A component's list is no longer than its mass assignment.
pub length_leaf : (c : Component) → c.count ≤ most_held → length (collect (masses c)) ≤ most_masses
length_leaf c h = omega (arith, length-collect (masses c), length-masses c h)

pub short_leaf : (c : Component) → c.count ≤ most_held → Short 1 (collect (masses c))
short_leaf c h =
    let n : length (collect (masses c)) ≤ most_masses = length_leaf c h in
    record { some = omega arith; over_one = λ q. n; third = omega arith }

pub short_join : (op : Join) {m n : ℕ} {x y : List Focal} → Short m x → Short n y → length (join_lists op x y) ≤ most_intervals → Short (m + n) (join_lists op x y)
short_join op {m} {n} {x} {y} p q h = record {
  some = omega (arith, p.some);
  over_one = λ k. absurd (omega (arith, p.some, q.some));
  third = elim (ℕ_discrete (m + n) 2) [
    | yes e ↦ omega
        (arith, length-join ◌*◌ op x y, mul-le-mul (p.over_one (omega (arith, q.some))) (q.over_one (omega (arith, p.some))))
    | no e ↦ omega (arith, p.some, q.some)
  ];
}

-- The lists of a stack, over k components together.
pub data Stacked : ℕ → List (List Focal) → Type 0 where
  none : Stacked 0 []
  more : {k m n : ℕ} {l : List Focal} {ls : List (List Focal)} → Fits m l → Short m l → Stacked n ls → k ≡ m + n → Stacked k (l ∷ ls)

-- Three times the records on a stack is at most 256 times the components on it.
pub records_most : {k : ℕ} {ls : List (List Focal)} → Stacked k ls → 3 * sum_by length ls ≤ most_intervals * k
records_most none = omega arith
records_most (more f q s e) = omega (arith, q.third, records_most s)

-- The two topmost are over m and n components; then there are the others.
pub record Topmost (k : ℕ) (x y : List Focal) (ls : List (List Focal)) : Type 0 where
  pub m : ℕ
  pub n : ℕ
  pub others : ℕ
  pub fits_left : Fits m x
  pub fits_right : Fits n y
  pub short_left : Short m x
  pub short_right : Short n y
  pub stacked : Stacked others ls
  pub together : k ≡ m + n + others

pub top_two_of : {k : ℕ} {x y : List Focal} {ls : List (List Focal)} → Stacked k (y ∷ x ∷ ls) → Topmost k x y ls
top_two_of (more {m = n} g q (more {m = m} {n = others} f p s a) b) =
    record { m = m; n = n; others = others; fits_left = f; fits_right = g; short_left = p; short_right = q; stacked = s; together = omega arith }

-- A list over up to six components fits records.
pub fits_record : {m : ℕ} {l : List Focal} → Fits m l → m ≤ most_components → Storable l
fits_record f h = (every_map (λ x r. (omega (arith, r.low_high, r.below), omega (arith, r.below))) f.speeds, fits_weights f h)
