-- Joining step by step, merging at each join, computes the definition of a sub-structure's list. Assumes nothing.
use Prim.Native.Nat.{ℕ, ◌*◌}
use mathlib.Core.Path.{◌≡◌, refl, sym, ap, ◌∙◌}
use mathlib.Core.List.{List, [], ◌∷◌, map}
use native.Mathlib.Nat.{mul_assoc, mul-pos}
use Rattle.theory.specs.Sums.{Every}
use Rattle.theory.specs.Masses.{masses, AllPositive}
use Rattle.theory.specs.Focal.{Positive}
use Rattle.theory.specs.declared.Focal.{Focal}
use Rattle.theory.specs.Joins.{joined, joined_by, pairs_by, joined_focal, pairs}
use Rattle.theory.specs.declared.Entry.{Entry}
use Rattle.theory.specs.declared.Entry.TheVariants.{Component as component, Join as join}
use Rattle.theory.specs.Structure.{step, run, Tree, leaf, node}
use Rattle.theory.specs.Order.{collect}
use Rattle.theory.specs.Lists.{no_component, outcomes_of, list_of}
use Rattle.theory.specs.declared.Component.{Component}
use Rattle.theory.specs.declared.Join.{Join}
use Rattle.theory.proofs.Sums.{sum_ext, sum_scale, sum_map, sum_for_each}
use Rattle.theory.proofs.Collect.{weigh, weigh-collect, positive_collect, same_collect}
use Rattle.theory.proofs.Every.{every_append, every_image, every_get_or}

-- A weighted sum over the pairs is one over the first list of one over the second.
pub weigh-pairs : (k : ℕ → ℕ → ℕ) (op : Join) (fs gs : List Focal)
    → weigh k (pairs op fs gs) ≡ weigh (λ a b. weigh (λ c d. k (joined op a c) (joined op b d)) gs) fs
weigh-pairs k op fs gs =
    sum_for_each (λ f. f.weight * k f.low f.high) (λ f. map (joined_focal op f) gs) fs
    ∙ sum_ext (λ f. sum_map (λ h. h.weight * k h.low h.high) (joined_focal op f) gs
    ∙ (sum_ext (λ g. mul_assoc f.weight g.weight (k (joined op f.low g.low) (joined op f.high g.high))) gs
    ∙ sum_scale f.weight (λ g. g.weight * k (joined op f.low g.low) (joined op f.high g.high)) gs)) fs

-- What holds of the join of any two intervals holds of every pair.
pub every_pairs : (times : ℕ → ℕ → ℕ) (op : Join) {P Q R : Focal → Type 0} → ((f g : Focal) → P f → Q g → R (joined_by times op f g))
    → {fs gs : List Focal} → Every P fs → Every Q gs → Every R (pairs_by times op fs gs)
every_pairs times op h Every.none q = Every.none
every_pairs times op h (Every.more {x = f} p r) q = every_append (every_image (joined_by times op f) (λ g. h f g p) q) (every_pairs times op h r q)

pub positive_pairs : (op : Join) {fs gs : List Focal} → Every Positive fs → Every Positive gs → Every Positive (pairs op fs gs)
positive_pairs op = every_pairs ◌*◌ op (λ f g. mul-pos)

-- The lists may be collected before they are joined.
pub collect-pairs : (op : Join) {fs gs : List Focal} → Every Positive fs → Every Positive gs
    → collect (pairs op fs gs) ≡ collect (pairs op (collect fs) (collect gs))
collect-pairs op {fs} {gs} p q =
    same_collect (positive_pairs op p q) (positive_pairs op (positive_collect p) (positive_collect q))
    (λ k. weigh-pairs k op fs gs
    ∙ (sum_ext (λ f. ap (f.weight *◌) (sym (weigh-collect (λ c d. k (joined op f.low c) (joined op f.high d)) gs))) fs
    ∙ (sym (weigh-collect (λ a b. weigh (λ c d. k (joined op a c) (joined op b d)) (collect gs)) fs)
    ∙ sym (weigh-pairs k op (collect fs) (collect gs)))))

pub positive_outcomes_of : {cs : List Component} → AllPositive cs → (t : Tree) → Every Positive (outcomes_of cs t)
positive_outcomes_of p (leaf i) = every_get_or (λ c. Every Positive (masses c)) no_component Every.none p i
positive_outcomes_of p (node op l r) = positive_pairs op (positive_outcomes_of p l) (positive_outcomes_of p r)

pub list_of_node : {cs : List Component} → AllPositive cs → (op : Join) (l r : Tree)
    → list_of cs (node op l r) ≡ collect (pairs op (list_of cs l) (list_of cs r))
list_of_node p op l r = collect-pairs op (positive_outcomes_of p l) (positive_outcomes_of p r)

-- One run of the entries is the image of another.
module _ {A B : Type 0} (h : A → B) (la : ℕ → A) (ba : Join → A → A → A) (lb : ℕ → B) (bb : Join → B → B → B)
    (hl : (i : ℕ) → h (la i) ≡ lb i) (hb : (op : Join) (x y : A) → h (ba op x y) ≡ bb op (h x) (h y)) where
  step_map : (e : Entry) (stack : List A) → map h (step la ba e stack) ≡ step lb bb e (map h stack)
  step_map (component i) stack = ap (◌∷ map h stack) (hl i)
  step_map (join op) [] = refl
  step_map (join op) (y ∷ []) = refl
  step_map (join op) (y ∷ x ∷ stack) = ap (◌∷ map h stack) (hb op x y)

  pub run-map : (es : List Entry) (stack : List A) → map h (run la ba es stack) ≡ run lb bb es (map h stack)
  run-map [] stack = refl
  run-map (e ∷ es) stack = run-map es (step la ba e stack) ∙ ap (run lb bb es) (step_map e stack)
