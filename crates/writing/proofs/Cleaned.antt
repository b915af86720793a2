-- The writer ignores the unused places of a plan: with zero in them the tests, the answer and the bytes are the same. Assumes nothing.
use mathlib.Core.Path.{◌≡◌, refl, sym, ap, ap₂, ◌∙◌}
use mathlib.Core.Bool.{Bool, true, false, not, ◌&&◌, ◌||◌}
use mathlib.Core.List.{List, [], ◌∷◌, ◌++◌, map}
use Prim.Native.Nat.{ℕ, zero, suc, ◌-◌, ◌≤◌, ◌<◌}
use native.Mathlib.Omega.{arith}
use lib.Dec.{ltb}
use lib.ListN.{length, get_or}
use Rattle.theory.specs.Sums.{for_each, count_from, none, more}
use Rattle.theory.specs.Focal.{focal_at}
use Rattle.theory.specs.declared.Focal.{Focal}
use Rattle.theory.specs.Limits.{most_held, most_components, most_entries, entry_count}
use Rattle.theory.specs.Lists.{no_component}
use Rattle.theory.specs.declared.Component.{Component}
use Rattle.theory.proofs.Sums.{sum_map}
use Rattle.field.specs.Fields.{bits}
use Rattle.field.specs.declared.Field.{Field}
use Rattle.block.proofs.Rows.{row_used}
use Rattle.block.proofs.Laws.{filled_used}
use Rattle.block.specs.Block.{speed_bits, weight_bits, size_of, zero_component, cleaned, intervals_of, fields_of}
use Rattle.plan.specs.declared.Plan.{Plan}
use Rattle.plan.specs.declared.Flaws.{Flaws}
use Rattle.plan.specs.Tests.{Test, test, first_broken, any_of}
use Rattle.plan.specs.Plan.{component_at, components_of, codes_of, cleaned_plan}
use Rattle.theory.specs.Codes.{entry_of}
use Rattle.plan.specs.Rules.{rule3, bad_count, rule4, bad_total, bad_alone, after, bad_interval, bad_intervals, bad_sum, flaws_in, flaw_tests, structure_tests, rules, AllHeld}
use Rattle.plan.proofs.Tests.{any_map, any_alike, map_below, within}
use Rattle.writing.specs.Writing.{number_of, length_of, sheet_fields, written_of, bytes_by, bytes_after, IgnoresUnused}
use Rattle.plan.proofs.Valid.{all_held}
use Rattle.writing.proofs.Accepted.{number_accepts, written_same}

-- The fields of an interval.
abbrev focal_fields : Focal → List Field
focal_fields f = bits speed_bits f.low ∷ bits speed_bits f.high ∷ bits weight_bits f.weight ∷ []

-- One component that is held.
module _ (c : Component) (l : c.count ≤ most_held) where
  focal_cleaned : (j : ℕ) → j < c.count → focal_at (cleaned c) j ≡ focal_at c j
  unfolding cleaned
  focal_cleaned j h = filled_used (focal_at c) c.count c.count c.total j h l

  intervals_cleaned : bad_intervals (cleaned c) ≡ bad_intervals c
  unfolding cleaned
  intervals_cleaned =
      any_alike (bad_interval (cleaned c)) (bad_interval c) 0 c.count
      (λ j a b. ap₂ (λ (f g : Focal). bad_alone f || ltb 0 j && not (after g f)) (focal_cleaned j (omega arith)) (focal_cleaned (j - 1) (omega arith)))

  sum_cleaned : bad_sum (cleaned c) ≡ bad_sum c
  unfolding cleaned
  sum_cleaned = rw (map_below (focal_at (cleaned c)) (focal_at c) 0 c.count (λ j a b. focal_cleaned j (omega arith)))

  total_cleaned : bad_total (cleaned c) ≡ bad_total c
  unfolding cleaned
  total_cleaned = refl

  first_cleaned : (n : ℕ) → n ≤ c.count → intervals_of (cleaned c) n ≡ intervals_of c n
  unfolding intervals_of
  first_cleaned zero h = refl
  first_cleaned (suc n) h = ap₂ (λ (fs : List Field) (f : Focal). fs ++ focal_fields f) (first_cleaned n (omega arith)) (focal_cleaned n h)

  fields_cleaned : fields_of (cleaned c) ≡ fields_of c
  unfolding fields_of cleaned
  fields_cleaned = rw (first_cleaned c.count (omega arith))

-- Components that are held.
any_cleaned : (f : Component → Bool) → ((c : Component) → c.count ≤ most_held → f (cleaned c) ≡ f c) → {cs : List Component} → AllHeld cs → any_of f (map cleaned cs) ≡ any_of f cs
any_cleaned f h none = refl
any_cleaned f h (more {x = c} l ls) = rw (h c l, any_cleaned f h ls)

flaws_cleaned : {cs : List Component} → AllHeld cs → flaws_in (map cleaned cs) ≡ flaws_in cs
flaws_cleaned h = rw (any_cleaned bad_total total_cleaned h, any_cleaned bad_intervals intervals_cleaned h, any_cleaned bad_sum sum_cleaned h)

blocks_cleaned : {cs : List Component} → AllHeld cs → for_each (map cleaned cs) fields_of ≡ for_each cs fields_of
blocks_cleaned none = refl
blocks_cleaned (more {x = c} l ls) = rw (fields_cleaned c l, blocks_cleaned ls)

counts_cleaned : (cs : List Component) → rule4 (map cleaned cs) ≡ rule4 cs
unfolding rule4 cleaned
counts_cleaned cs = any_map bad_count cleaned cs

-- A plan with up to six components.
module _ (p : Plan) (n : p.count ≤ most_components) where
  count_cleaned : (cleaned_plan p).count ≡ p.count
  unfolding cleaned_plan
  count_cleaned = refl

  components_cleaned : components_of (cleaned_plan p) ≡ map cleaned (components_of p)
  unfolding cleaned_plan
  components_cleaned =
      map_below (component_at (cleaned_plan p)) (λ i. cleaned (component_at p i)) 0 p.count
      (λ i a b. row_used zero_component most_components no_component (λ j. cleaned (component_at p j)) p.count i (omega arith) n)
      ∙ sym (map-map cleaned (component_at p) (count_from 0 p.count))
    where
      map-map : {A B C : Type 0} (f : B → C) (g : A → B) (l : List A) → map f (map g l) ≡ map (λ x. f (g x)) l
      map-map f g [] = refl
      map-map f g (x ∷ l) = rw (map-map f g l)

  codes_cleaned : codes_of (cleaned_plan p) ≡ codes_of p
  unfolding cleaned_plan
  codes_cleaned =
      map_below (λ j. get_or (cleaned_plan p).entries j 0) (λ j. get_or p.entries j 0) 0 (entry_count p.count)
      (λ j a b. row_used 0 most_entries 0 (λ i. get_or p.entries i 0) (entry_count p.count) j (omega arith) (omega arith))

  length_cleaned : length_of (cleaned_plan p) ≡ length_of p
  unfolding length_of cleaned
  length_cleaned = rw (components_cleaned, count_cleaned, sum_map (λ c. size_of c.count) cleaned (components_of p))

  rule4_cleaned : rule4 (components_of (cleaned_plan p)) ≡ rule4 (components_of p)
  rule4_cleaned = rw components_cleaned (counts_cleaned (components_of p))

  module _ (h : AllHeld (components_of p)) where
    pub rules_cleaned : rules (cleaned_plan p) ≡ rules p
    unfolding cleaned_plan
    rules_cleaned =
        ap₂ (λ (f : Flaws) (codes : List ℕ). flaw_tests f ++ structure_tests p.count (map entry_of codes))
        (ap flaws_in components_cleaned ∙ flaws_cleaned h) codes_cleaned

    sheet_cleaned : sheet_fields (cleaned_plan p) ≡ sheet_fields p
    unfolding sheet_fields
    sheet_cleaned = rw (components_cleaned, blocks_cleaned h, codes_cleaned, length_cleaned, count_cleaned)

-- The three ways that a plan goes: 3, 4, or the rest, where all that it says to use is there.
module _ (p : Plan) (room : ℕ) where
  number_cleaned : number_of (cleaned_plan p) room ≡ number_of p room
  unfolding cleaned_plan
  number_cleaned = three (rule3 p.count) refl
    where
      four : p.count ≤ most_components → (b : Bool) → rule4 (components_of p) ≡ b → number_of (cleaned_plan p) room ≡ number_of p room
      four n true e = rw (rule4_cleaned p n, e)
      four n false e =
          ap₂
          (λ (ts : List Test) (len : ℕ). first_broken (test 3 (rule3 p.count) ∷ test 4 (rule4 (components_of (cleaned_plan p))) ∷ (ts ++ (test 15 (ltb room len) ∷ []))))
          (rules_cleaned p n (all_held (components_of p) e)) (length_cleaned p n)
          ∙ rw (rule4_cleaned p n)

      three : (b : Bool) → rule3 p.count ≡ b → number_of (cleaned_plan p) room ≡ number_of p room
      three true e = rw e
      three false e = four (within 1 most_components p.count e).1 (rule4 (components_of p)) refl

  -- What is the same where the plan is accepted.
  module _ (e : number_of p room ≡ 0) where
    most : p.count ≤ most_components
    most = (within 1 most_components p.count (number_accepts p room e).three).1

    same_length : length_of (cleaned_plan p) ≡ length_of p
    same_length = length_cleaned p most

    same_fields : sheet_fields (cleaned_plan p) ≡ sheet_fields p
    same_fields = sheet_cleaned p most (all_held (components_of p) (number_accepts p room e).four)

-- What is written depends on the fields only where nothing is refused.
bytes_same : (k : ℕ) (s : List ℕ) (fs gs : List Field) → (k ≡ 0 → fs ≡ gs) → bytes_by k s fs ≡ bytes_by k s gs
bytes_same zero s fs gs h = rw (h refl)
bytes_same (suc k) s fs gs h = refl

pub ignores_unused : (p : Plan) (buffer : List ℕ) → IgnoresUnused p buffer
unfolding written_of bytes_after
ignores_unused p buffer =
    let room = length buffer in
    record {
      answer = rw (number_cleaned p room) (written_same (number_of p room) _ _ (same_length p room));
      bytes = rw (number_cleaned p room) (bytes_same (number_of p room) buffer _ _ (same_fields p room));
    }
