-- "Refusal by number", 3, 4 and 6 to 11: what is asked of a plan. Each rule is true where it is broken. Assumes nothing.
use Rattle.std.specs.Prelude.{ℕ, ◌-◌, ◌≤◌, ◌<◌, ◌≡◌, Bool, false, not, ◌&&◌, ◌||◌, List, [], ◌∷◌, ◌++◌, ltb, leb, eqb}
use Rattle.theory.specs.Sums.{count_from, count_of, Every}
use Rattle.theory.specs.Focal.{focal_at, listed, weights}
use Rattle.theory.specs.declared.Focal.{Focal}
use Rattle.theory.specs.Limits.{top_speed, most_held, most_total, most_components}
use Rattle.theory.specs.declared.Entry.{Entry}
use Rattle.theory.specs.declared.Entry.TheVariants.{Component as component, Join as join}
use Rattle.theory.specs.Structure.{named, joins_find_two}
use Rattle.theory.specs.declared.Component.{Component}
use Rattle.plan.specs.declared.Plan.{Plan}
use Rattle.plan.specs.declared.Flaws.{Flaws}
use Rattle.plan.specs.Tests.{Test, test, outside, any_of}
use Rattle.plan.specs.Plan.{component_at, components_of, entries_of}
use Rattle.theory.specs.Codes.{entry_of}

-- 3. The component count is not 1 to 6.
abbrev pub rule3 : ℕ → Bool
rule3 n = outside 1 most_components n

-- 4 (only k). An interval count is not 1 to 8.
abbrev pub bad_count : Component → Bool
bad_count c = outside 1 most_held c.count

unfoldable pub rule4 : List Component → Bool
rule4 = any_of bad_count

-- 6. A T is not 1 to 1,000.
abbrev pub bad_total : Component → Bool
bad_total c = outside 1 most_total c.total

-- 7. An interval has low above high, a speed above 4,095 or weight 0, or does not come strictly after the one before it.
-- This is what can be wrong with an interval by itself.
abbrev pub bad_alone : Focal → Bool
bad_alone f = ltb f.high f.low || ltb top_speed f.high || eqb f.weight 0

-- The interval g comes strictly after f, ascending by low, then by high.
abbrev pub after : Focal → Focal → Bool
after f g = ltb f.low g.low || eqb f.low g.low && ltb f.high g.high

-- Interval j of a component is wrong by itself or behind the one before it.
abbrev pub bad_interval : Component → ℕ → Bool
bad_interval c j = bad_alone (focal_at c j) || ltb 0 j && not (after (focal_at c (j - 1)) (focal_at c j))

abbrev pub bad_intervals : Component → Bool
bad_intervals c = any_of (bad_interval c) (count_from 0 c.count)

-- 8. A component's weights exceed T (document 02, request four).
abbrev pub bad_sum : Component → Bool
bad_sum c = ltb c.total (weights (listed c))

-- 9. An entry is 6, 7 or above 10, or names a component not below n. Every entry but the joins 8, 9 and 10 names a component, and there is
-- no component with a number from 6 on.
abbrev pub bad_entry : ℕ → Entry → Bool
bad_entry n (component i) = leb most_components i || leb n i
bad_entry n (join op) = false

-- The same of a code in document 01's own words, and that they agree (proved: `Entries.bad_code_is`).
abbrev pub bad_code : ℕ → ℕ → Bool
bad_code n code = eqb code 6 || eqb code 7 || ltb 10 code || ltb code 6 && leb n code

abbrev pub Rule9InWords : Type 0
Rule9InWords = (n code : ℕ) → bad_entry n (entry_of code) ≡ bad_code n code

unfoldable pub rule9 : ℕ → List Entry → Bool
rule9 n = any_of (bad_entry n)

-- 10. A component is named twice or never.
abbrev pub bad_naming : List Entry → ℕ → Bool
bad_naming es i = not (eqb (count_of i (named es)) 1)

unfoldable pub rule10 : ℕ → List Entry → Bool
rule10 n es = any_of (bad_naming es) (count_from 0 n)

-- 11. A join finds fewer than two lists.
unfoldable pub rule11 : List Entry → Bool
rule11 es = not (joins_find_two es 0)

-- None of 6, 7 and 8 is broken.
abbrev pub no_flaws : Flaws
no_flaws = record { total = false; intervals = false; weights = false }

-- Which of 6, 7 and 8 a component breaks.
abbrev pub flaws_of : Component → Flaws
flaws_of c = record { total = bad_total c; intervals = bad_intervals c; weights = bad_sum c }

-- Which of 6, 7 and 8 some component of a list breaks.
abbrev pub flaws_in : List Component → Flaws
flaws_in cs = record { total = any_of bad_total cs; intervals = any_of bad_intervals cs; weights = any_of bad_sum cs }

-- Which of 6, 7 and 8 are broken on one side or the other.
abbrev pub either_flaws : Flaws → Flaws → Flaws
either_flaws a b = record { total = a.total || b.total; intervals = a.intervals || b.intervals; weights = a.weights || b.weights }

-- The tests 6, 7 and 8 of a component or of several.
abbrev pub flaw_tests : Flaws → List Test
flaw_tests f = test 6 f.total ∷ test 7 f.intervals ∷ test 8 f.weights ∷ []

-- The tests 9, 10 and 11 of the structure of n components.
abbrev pub structure_tests : ℕ → List Entry → List Test
structure_tests n es = test 9 (rule9 n es) ∷ test 10 (rule10 n es) ∷ test 11 (rule11 es) ∷ []

-- The tests 6 to 11 in their order, which reader and writer share.
abbrev pub rules : Plan → List Test
rules p = flaw_tests (flaws_in (components_of p)) ++ structure_tests p.count (entries_of p)

-- What rule 3 leaves: n is 1 to 6.
pub record Counted (n : ℕ) : Type 0 where
  pub least : 1 ≤ n
  pub most : n ≤ most_components

-- What rule 4 leaves of a list of components.
abbrev pub AllHeld : List Component → Type 0
AllHeld = Every (λ c. c.count ≤ most_held)

-- What the rules 3 and 4 leave: the places that a plan says to use are there.
pub record Sized (p : Plan) : Type 0 where
  pub counted : Counted p.count
  pub held : (i : ℕ) → i < p.count → (component_at p i).count ≤ most_held
