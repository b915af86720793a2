-- Demand 3 on the definitions: belief and plausibility are the bounds of the share of time, and two divisions meet them at every demand: the
-- scale factor 1 and all weight on the lows, or on the highs. Assumes nothing.
use Prim.Native.Nat.{ℕ, suc, ◌+◌, ◌*◌, ◌≤◌, ◌<◌}
use mathlib.Core.Path.{◌≡◌, refl, sym, ap, ap₂, subst, ◌∙◌}
use mathlib.Core.Bool.{Bool, true, false, cond}
use mathlib.Core.List.Forall₂
use mathlib.Core.List.{List, [], ◌∷◌, map}
use native.Mathlib.Nat.{zero-mul, one-mul, le_refl, lt_irrefl}
use native.Mathlib.Omega.{arith}
use lib.Dec.{eqb}
use borrow.Author.Tests.{eqb-true}
use Rattle.theory.specs.Sums.{sum_by, Every}
use Rattle.theory.specs.Limits.{top_speed}
use Rattle.theory.specs.Masses.{masses, total, AllInRange}
use Rattle.theory.specs.Focal.{Inside, InRange}
use Rattle.theory.specs.declared.Focal.{Focal}
use Rattle.theory.specs.declared.Entry.{Entry}
use Rattle.theory.specs.Choices.{outcomes, belief, plausibility}
use Rattle.theory.specs.Division.{speeds, Parts, Splits, Divides, Division, put_on, share_above, share_total}
use Rattle.theory.specs.Bounds.{ShareIs, Bounds}
use Rattle.theory.specs.declared.Component.{Component}
use Rattle.theory.proofs.Sums.{sum_ext, sum_zero, sum_point}
use Rattle.theory.proofs.Monotone.{Side, lower, upper, end, end_inside, Bounding, least, greatest, at_least, at_most}
use Rattle.theory.proofs.Shares.{end_sum, draw_sum, end_sum_cons, draw_sum_cons, put_on_sum, meets, shares, shares_is, share_above_is, share_bound}

-- A sum over the speeds with one term is that term.
speeds_point : (a : ℕ) (g : ℕ → ℕ) → a ≤ top_speed → sum_by (λ v. cond (eqb a v) (g v) 0) speeds ≡ g a
unfolding speeds
speeds_point a g h = sum_point a g 0 (suc top_speed) (omega arith) (omega arith)

module _ (side : Side) where
  -- The whole weight of an interval goes on one of its ends.
  abbrev all_on : Focal → Parts
  all_on f s = cond (eqb (end side f) s) f.weight 0

  abbrev at_ends : List Component → List (List Parts)
  at_ends cs = map (λ c. map all_on (masses c)) cs

  module _ (f : Focal) (r : InRange f) where
    end_below : end side f ≤ top_speed
    end_below = omega (arith, end_inside side f r.low_high, r.below)

    at_one : (g : ℕ → ℕ) → sum_by (λ s. all_on f s * g s) speeds ≡ f.weight * g (end side f)
    at_one g = sum_ext (λ s. push (eqb (end side f) s) (g s)) speeds ∙ speeds_point (end side f) (λ s. f.weight * g s) end_below
      where
        push : (b : Bool) (k : ℕ) → cond b f.weight 0 * k ≡ cond b (f.weight * k) 0
        push true k = refl
        push false k = zero-mul k

    split_one : (s : ℕ) (b : Bool) → eqb (end side f) s ≡ b → 0 < cond b f.weight 0 → Inside f s
    split_one s true e h = subst (Inside f) (eqb-true (end side f) s e) (end_inside side f r.low_high)
    split_one s false e h = absurd (lt_irrefl 0 h)

    split_whole : sum_by (all_on f) speeds ≡ 1 * f.weight
    split_whole = speeds_point (end side f) (λ s. f.weight) end_below ∙ sym (one-mul f.weight)

  at_all : {fs : List Focal} → Every InRange fs → (g : ℕ → ℕ)
      → sum_by (λ s. put_on (map all_on fs) s * g s) speeds ≡ sum_by (λ f. f.weight * g (end side f)) fs
  at_all Every.none g = sum_ext (λ s. zero-mul (g s)) speeds ∙ sum_zero speeds
  at_all (Every.more {x = f} {xs = fs} r rs) g = put_on_sum (all_on f) (map all_on fs) g speeds ∙ ap₂ ◌+◌ (at_one f r g) (at_all rs g)

  draws_at : {cs : List Component} → AllInRange cs → (G : List ℕ → ℕ) → draw_sum (at_ends cs) G ≡ end_sum side cs G
  draws_at Every.none G = refl
  draws_at (Every.more {x = c} {xs = cs} r rs) G =
      draw_sum_cons (map all_on (masses c)) (at_ends cs) G
      ∙ (sum_ext (λ s. ap (put_on (map all_on (masses c)) s *◌) (draws_at rs (λ v. G (s ∷ v)))) speeds
      ∙ (at_all r (λ s. end_sum side cs (λ v. G (s ∷ v))) ∙ sym (end_sum_cons side c cs G)))

  -- These parts are a division.
  splits_at : {fs : List Focal} → Every InRange fs → Splits 1 fs (map all_on fs)
  splits_at Every.none = Forall₂.nil
  splits_at (Every.more {x = f} r rs) =
      Forall₂.cons (record { inside = λ s. split_one f r s (eqb (end side f) s) refl; whole = split_whole f r }) (splits_at rs)

  divides_at : {cs : List Component} → AllInRange cs → Divides 1 cs (at_ends cs)
  divides_at Every.none = Forall₂.nil
  divides_at (Every.more r rs) = Forall₂.cons (splits_at r) (divides_at rs)

  share_met : {cs : List Component} → AllInRange cs → (es : List Entry) (d : ℕ) → share_above es (at_ends cs) d ≡ shares side d (outcomes es cs)
  share_met {cs} r es d = share_above_is es (at_ends cs) d ∙ (draws_at r (meets es d) ∙ sym (shares_is side es cs d))

-- With the scale factor 1 the denominator is the total.
total_at_one : (cs : List Component) → share_total 1 cs ≡ total cs
total_at_one [] = refl
total_at_one (c ∷ cs) = ap₂ ◌*◌ (one-mul c.total) (total_at_one cs)

module _ (es : List Entry) {cs : List Component} (r : AllInRange cs) where
  -- The division has all weight on one end, the lows or the highs.
  abbrev all_at : Side → Division cs
  all_at side = record { scale = 1; parts = at_ends side cs; scaled = le_refl 1; divides = divides_at side r }

  met : (side : Side) (d : ℕ) → ShareIs es cs (all_at side) d (shares side d (outcomes es cs)) (total cs)
  met side d = ap₂ ◌*◌ (share_met side r es d) (sym (total_at_one cs))

  tight : (side : Side) (d a b : ℕ) → ((D : Division cs) → Bounding side (a * share_total D.scale cs) (share_above es D.parts d * b))
      → Bounding side (a * total cs) (shares side d (outcomes es cs) * b)
  tight side d a b h = rw (share_met side r es d, total_at_one cs) at (h (all_at side))

  pub bounds : {I : Type 0} (demand_at : I → ℕ)
      → Bounds es cs (total cs) demand_at (λ i. belief (demand_at i) (outcomes es cs)) (λ i. plausibility (demand_at i) (outcomes es cs))
  bounds demand_at = record {
    least = λ D i. at_least (share_bound lower D.scale es D.divides (demand_at i));
    greatest = λ D i. at_most (share_bound upper D.scale es D.divides (demand_at i));
    least_met = (all_at lower, λ i. met lower (demand_at i));
    greatest_met = (all_at upper, λ i. met upper (demand_at i));
    least_tight = λ i a b h. at_least (tight lower (demand_at i) a b (λ D. least (h D)));
    greatest_tight = λ i a b h. at_most (tight upper (demand_at i) a b (λ D. greatest (h D)));
  }
