-- A plan that keeps the rules meets every premise of the drive calculation. Assumes nothing.
use borrow.Author.Tests.{ltb-true, ltb-false, eqb-true, eqb-false, not-false, lt-ltb, le-ltb, ne_eqb}
use mathlib.Core.Path.{◌≡◌, refl}
use mathlib.Core.Bool.{Bool, true, false, cond, not, ◌&&◌, ◌||◌, false≢true}
use mathlib.Core.List.{List, map}
use Prim.Native.Nat.{ℕ, zero, suc, ◌+◌, ◌-◌, ◌*◌, ◌≤◌, ◌<◌}
use native.Mathlib.Decide.{dec_lt}
use native.Mathlib.Omega.{arith}
use lib.Dec.{ltb, eqb}
use Rattle.theory.specs.Sums.{count_from, count_of, Every, none, more}
use Rattle.theory.specs.Focal.{focal_at, listed, weights, InRange, Positive}
use Rattle.theory.specs.declared.Focal.{Focal}
use Rattle.theory.specs.Masses.{times_at, Distinct}
use Rattle.theory.specs.Limits.{top_speed, most_held, most_total, most_components}
use Rattle.theory.specs.declared.Entry.{Entry}
use Rattle.theory.specs.Structure.{named, NamedOnce}
use Rattle.theory.specs.declared.Component.{Component}
use Rattle.theory.proofs.Every.{every_image}
use Rattle.theory.proofs.Masses.{Compared, same, apart, compared, range_masses, positive_masses, distinct_masses, balanced_masses}
use Rattle.block.proofs.Laws.{neither}
use Rattle.plan.specs.declared.Plan.{Plan}
use Rattle.plan.specs.Tests.{first_broken, any_of, Unbroken}
use Rattle.plan.specs.Plan.{component_at, components_of, entries_of}
use Rattle.plan.specs.Rules.{rule3, bad_count, rule4, bad_total, bad_alone, after, bad_interval, bad_intervals, bad_sum, bad_entry, rule9, bad_naming, rule10, rule11, rules, Counted, AllHeld, Sized}
use Rattle.plan.specs.Valid.{Known, names, joins, Valid}
use Rattle.plan.proofs.Tests.{every_failed, any_below, every_below, within}
use Rattle.plan.proofs.Numbers.{no_number}
use Rattle.plan.proofs.Entries.{known_entry, entries_count}

pub counted : (n : ℕ) → rule3 n ≡ false → Counted n
counted n e =
    let w = within 1 most_components n e in
    record { least = w.0; most = w.1 }

pub all_held : (cs : List Component) → rule4 cs ≡ false → AllHeld cs
unfolding rule4
all_held cs = every_failed bad_count cs (λ c e. (within 1 most_held c.count e).1)

-- 3 and 4 are kept, so everything that a plan says to use is there.
pub sized : (p : Plan) → rule3 p.count ≡ false → rule4 (components_of p) ≡ false → Sized p
sized p e₃ e₄ =
    record {
      counted = counted p.count e₃;
      held = λ i h. every_below {P = λ c. c.count ≤ most_held} (component_at p) 0 p.count i (all_held (components_of p) e₄) (omega arith) (omega arith);
    }

-- What rule 7 leaves of an interval.
module _ (c : Component) (j : ℕ) (e : bad_interval c j ≡ false) where
  alone : (ltb (focal_at c j).high (focal_at c j).low || ltb top_speed (focal_at c j).high ≡ false) × (eqb (focal_at c j).weight 0 ≡ false)
  alone = neither _ _ (neither (bad_alone (focal_at c j)) _ e).0

  interval_in_range : InRange (focal_at c j)
  interval_in_range =
      let b = neither (ltb (focal_at c j).high (focal_at c j).low) (ltb top_speed (focal_at c j).high) alone.0 in
      record { low_high = ltb-false _ _ b.0; below = ltb-false _ _ b.1 }

  weight_above : Positive (focal_at c j)
  weight_above = omega (arith, eqb-false (focal_at c j).weight 0 alone.1)

kept : (c : Component) → bad_intervals c ≡ false → Every (λ j. bad_interval c j ≡ false) (count_from 0 c.count)
kept c h = every_failed (bad_interval c) (count_from 0 c.count) (λ j e. e) h

-- The intervals ascend, so that none stands twice: as one number, low and high rise from place to place.
abbrev key : ℕ → ℕ → ℕ
key low high = suc top_speed * low + high

rises : (f g : Focal) → f.high ≤ top_speed → after f g ≡ true → key f.low f.high < key g.low g.high
rises f g h e = go (ltb f.low g.low) refl (eqb f.low g.low) refl (ltb f.high g.high) refl e
  where
    go : (x : Bool) → ltb f.low g.low ≡ x → (y : Bool) → eqb f.low g.low ≡ y → (z : Bool) → ltb f.high g.high ≡ z
        → (x || y && z) ≡ true → key f.low f.high < key g.low g.high
    go true p y q z r w = omega (arith, ltb-true f.low g.low p)
    go false p true q true r w = omega (arith, eqb-true f.low g.low q, ltb-true f.high g.high r)
    go false p true q false r w = absurd (false≢true w)
    go false p false q z r w = absurd (false≢true w)

module _ (c : Component) where
  next_rises : (i : ℕ) → bad_interval c i ≡ false → bad_interval c (suc i) ≡ false
      → key (focal_at c i).low (focal_at c i).high < key (focal_at c (suc i)).low (focal_at c (suc i)).high
  next_rises i e h =
      let p : suc i - 1 ≡ i = omega arith in
      let n : not (after (focal_at c (suc i - 1)) (focal_at c (suc i))) ≡ false =
      rw (lt-ltb 0 (suc i) (omega arith)) at (neither (bad_alone (focal_at c (suc i))) _ h).1 in
      rises (focal_at c i) (focal_at c (suc i)) (interval_in_range c i e).below (not-false _ (rw p at n))

  module _ (a b : ℕ) where
    -- How often the interval from a to b stands at the n places from i on.
    abbrev times : ℕ → ℕ → ℕ
    times i n = times_at a b (map (focal_at c) (count_from i n))

    none_behind : (i n : ℕ) → bad_interval c i ≡ false → key a b ≤ key (focal_at c i).low (focal_at c i).high
        → Every (λ j. bad_interval c j ≡ false) (count_from (suc i) n) → times (suc i) n ≡ 0
    none_behind i zero e h r = refl
    none_behind i (suc n) e h (more k r) =
        let l = next_rises i e k in
        go (compared a b (focal_at c (suc i))) (none_behind (suc i) n k (omega arith) r) l
      where
        go : {t : Bool} → Compared a b (focal_at c (suc i)) t → times (suc (suc i)) n ≡ 0
            → key (focal_at c i).low (focal_at c i).high < key (focal_at c (suc i)).low (focal_at c (suc i)).high
            → cond t 1 0 + times (suc (suc i)) n ≡ 0
        go (same p q) z l = absurd (omega arith)
        go (apart p) z l = omega arith

    once_from : (i n : ℕ) → Every (λ j. bad_interval c j ≡ false) (count_from i n) → times i n ≤ 1
    once_from i zero r = omega arith
    once_from i (suc n) (more k r) = go (compared a b (focal_at c i)) (once_from (suc i) n r)
      where
        go : {t : Bool} → Compared a b (focal_at c i) t → times (suc i) n ≤ 1 → cond t 1 0 + times (suc i) n ≤ 1
        go (same p q) h = omega (arith, none_behind i n k (omega arith) r)
        go (apart p) h = omega arith

  distinct_listed : bad_intervals c ≡ false → Distinct (listed c)
  distinct_listed h a b = once_from a b 0 c.count (kept c h)

-- Rules 9 and 10: no entry names a component that is not there, and each that is there is named once.
none_above : {n : ℕ} {es : List Entry} (i : ℕ) → n ≤ i → Every (Known n) es → count_of i (named es) ≡ 0
none_above i h none = refl
none_above i h (more (names {i = k} l) r) = rw (ne_eqb i k (omega arith)) (omega (arith, none_above i h r))
none_above i h (more joins r) = none_above i h r

named_once_is : (n : ℕ) (es : List Entry) → Every (Known n) es → any_of (bad_naming es) (count_from 0 n) ≡ false → NamedOnce n es
named_once_is n es k e i = elim (dec_lt i n) [
  | yes h ↦ rw (lt-ltb i n h) (eqb-true _ 1 (not-false _ (any_below (bad_naming es) 0 n i e (omega arith) (omega arith))))
  | no h ↦ rw (le-ltb i n (omega arith)) (none_above i (omega arith) k)
]

in_range_all : (c : Component) → bad_intervals c ≡ false → Every InRange (listed c)
in_range_all c h = every_image (focal_at c) (interval_in_range c) (kept c h)

sum_most : (c : Component) → bad_sum c ≡ false → weights (listed c) ≤ c.total
sum_most c h = ltb-false c.total (weights (listed c)) h

pub valid : (p : Plan) → rule3 p.count ≡ false → rule4 (components_of p) ≡ false → first_broken (rules p) ≡ 0 → Valid p
unfolding rule4 rule9 rule10 rule11
valid p e₃ e₄ e = go (no_number 11 (rules p) refl e)
  where
    n : Counted p.count
    n = counted p.count e₃

    go : Every Unbroken (rules p) → Valid p
    go (more e₆ (more e₇ (more e₈ (more e₉ (more e₁₀ (more e₁₁ none)))))) =
        let cs = components_of p in
        let es = entries_of p in
        let known : Every (Known p.count) es = every_failed (bad_entry p.count) es (known_entry p.count) e₉ in
        record {
          least = n.least;
          most = n.most;
          counts = every_failed bad_count cs (λ c. within 1 most_held c.count) e₄;
          totals = every_failed bad_total cs (λ c. within 1 most_total c.total) e₆;
          listed_in_range = every_failed bad_intervals cs in_range_all e₇;
          at_most = every_failed bad_sum cs sum_most e₈;
          in_range = every_failed bad_intervals cs (λ c h. range_masses c (in_range_all c h)) e₇;
          positive = every_failed bad_intervals cs (λ c h. positive_masses c (every_image (focal_at c) (weight_above c) (kept c h))) e₇;
          distinct = every_failed bad_intervals cs (λ c h. distinct_masses c (distinct_listed c h)) e₇;
          balanced = every_failed bad_sum cs (λ c h. balanced_masses c (sum_most c h)) e₈;
          known = known;
          named_once = named_once_is p.count es known e₁₀;
          find_two = not-false _ e₁₁;
          entries = rw (entries_count p) (omega (arith, n.least));
        }
