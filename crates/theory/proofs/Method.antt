-- The method, lists merged at each join, gives the answers of the definition over all choices; its pair count is the definition's sum. Assumes nothing.
use Prim.Native.Nat.{ℕ, ◌+◌, ◌*◌}
use mathlib.Core.Path.{◌≡◌, refl, sym, ap, ◌∙◌}
use mathlib.Core.Bool.{Bool, true, false}
use mathlib.Core.Logic.{◌⊎◌, inl, inr}
use mathlib.Core.List.{List, [], ◌∷◌, map}
use native.Mathlib.Omega.{arith}
use lib.Dec.{ltb}
use lib.ListN.{length}
use Rattle.theory.specs.Sums.{sum_by}
use Rattle.theory.specs.Limits.{most_intervals}
use Rattle.theory.specs.Masses.{AllPositive}
use Rattle.theory.specs.declared.Focal.{Focal}
use Rattle.theory.specs.declared.Entry.{Entry}
use Rattle.theory.specs.declared.Entry.TheVariants.{Component as component, Join as join}
use Rattle.theory.specs.Structure.{NamedOnce, joins_find_two, run, Tree, leaf, node, trees}
use Rattle.theory.specs.Lists.{join_lists, drive_list, list_of}
use Rattle.theory.specs.Evaluation.{pair_count, Evaluation, completed, refused, refuse_if, walk, walk_lists, evaluate}
use Rattle.theory.specs.declared.Component.{Component}
use Rattle.theory.specs.declared.Join.{Join}
use Rattle.theory.proofs.Steps.{list_of_node}
use Rattle.theory.proofs.Structure.{one_tree}
use Rattle.theory.proofs.Bridge.{drive_is_tree}

abbrev pub image : {A B : Type 0} → (A → B) → Evaluation A → Evaluation B
image h (completed stack n) = completed (map h stack) n
image h (refused r) = refused r

image_refuse : {A B : Type 0} (h : A → B) (b : Bool) (r : ℕ) (a : Evaluation A) → image h (refuse_if b r a) ≡ refuse_if b r (image h a)
image_refuse h true r a = refl
image_refuse h false r a = refl

-- One walk is the image of another.
module _ {A B : Type 0} (h : A → B) (allowance : ℕ) (list : B → List Focal) (la : ℕ → A) (ba : Join → A → A → A) (lb : ℕ → B) (bb : Join → B → B → B)
    (hl : (i : ℕ) → h (la i) ≡ lb i) (hb : (op : Join) (x y : A) → h (ba op x y) ≡ bb op (h x) (h y)) where
  walk-map : (es : List Entry) (stack : List A) (n : ℕ)
      → image h (walk allowance (λ x. list (h x)) la ba es stack n) ≡ walk allowance list lb bb es (map h stack) n
  walk-map [] stack n = refl
  walk-map (component i ∷ es) stack n =
      walk-map es (la i ∷ stack) n ∙ ap (λ (x : B). walk allowance list lb bb es (x ∷ map h stack) n) (hl i)
  walk-map (join op ∷ es) [] n = walk-map es [] n
  walk-map (join op ∷ es) (y ∷ []) n = walk-map es (y ∷ []) n
  walk-map (join op ∷ es) (y ∷ x ∷ stack) n =
      let m : ℕ = n + length (list (h x)) * length (list (h y)) in
      image_refuse h (ltb allowance m) 13 _
      ∙ ap (refuse_if (ltb allowance m) 13)
      (image_refuse h (ltb most_intervals (length (list (h (ba op x y))))) 14 _
      ∙ (ap (refuse_if (ltb most_intervals (length (list (h (ba op x y))))) 14) (walk-map es (ba op x y ∷ stack) m)
      ∙ ap (λ (z : B). refuse_if (ltb most_intervals (length (list z))) 14 (walk allowance list lb bb es (z ∷ map h stack) m)) (hb op x y)))

-- The walk on lists, merged at each join, is the image of the evaluation: each sub-structure stands for its list.
pub evaluate_lists : {cs : List Component} → AllPositive cs → (allowance : ℕ) (es : List Entry)
    → walk_lists ◌*◌ allowance (λ i. list_of cs (leaf i)) es [] 0 ≡ image (list_of cs) (evaluate cs allowance es)
evaluate_lists {cs} p allowance es =
    sym (walk-map (list_of cs) allowance (λ l. l) leaf node (λ i. list_of cs (leaf i)) join_lists (λ i. refl) (list_of_node p) es [] 0)

-- What an evaluation ends in: a refusal by 13 or 14, or the trees of the structure with the sum of the pairs of their joins.
data Ends (cs : List Component) (ts : List Tree) : Evaluation Tree → Type 0 where
  thirteen : Ends cs ts (refused 13)
  fourteen : Ends cs ts (refused 14)
  whole : {n : ℕ} → n ≡ sum_by (pair_count cs) ts → Ends cs ts (completed ts n)

module _ (cs : List Component) (allowance : ℕ) where
  tested : (b c : Bool) {ts : List Tree} {a : Evaluation Tree} → Ends cs ts a → Ends cs ts (refuse_if b 13 (refuse_if c 14 a))
  tested true c e = thirteen
  tested false true e = fourteen
  tested false false e = e

  walk_ends : (es : List Entry) (stack : List Tree) (n : ℕ) → n ≡ sum_by (pair_count cs) stack
      → Ends cs (run leaf node es stack) (walk allowance (list_of cs) leaf node es stack n)
  walk_ends [] stack n h = whole h
  walk_ends (component i ∷ es) stack n h = walk_ends es (leaf i ∷ stack) n (omega arith)
  walk_ends (join op ∷ es) [] n h = walk_ends es [] n h
  walk_ends (join op ∷ es) (y ∷ []) n h = walk_ends es (y ∷ []) n h
  walk_ends (join op ∷ es) (y ∷ x ∷ stack) n h =
      let m : ℕ = n + length (list_of cs x) * length (list_of cs y) in
      tested (ltb allowance m) (ltb most_intervals (length (list_of cs (node op x y)))) (walk_ends es (node op x y ∷ stack) m (omega arith))

  evaluate_count : (es : List Entry) (q : List Tree) (m : ℕ) → evaluate cs allowance es ≡ completed q m → (q ≡ trees es) × (m ≡ sum_by (pair_count cs) q)
  evaluate_count es q m = go (walk_ends es [] 0 refl)
    where
      go : {a : Evaluation Tree} → Ends cs (trees es) a → a ≡ completed q m → (q ≡ trees es) × (m ≡ sum_by (pair_count cs) q)
      go thirteen e = absurd (let z : ◌≡◌ {A = ℕ} 0 1 = cc in omega arith)
      go fourteen e = absurd (let z : ◌≡◌ {A = ℕ} 0 1 = cc in omega arith)
      go (whole h) e = (cc, cc)

  pub evaluate-refused : (es : List Entry) (k : ℕ) → evaluate cs allowance es ≡ refused k → (k ≡ 13) ⊎ (k ≡ 14)
  evaluate-refused es k = go (walk_ends es [] 0 refl)
    where
      go : {a : Evaluation Tree} → Ends cs (trees es) a → a ≡ refused k → (k ≡ 13) ⊎ (k ≡ 14)
      go thirteen e = inl cc
      go fourteen e = inr cc
      go (whole h) e = absurd (let z : ◌≡◌ {A = ℕ} 0 1 = cc in omega arith)

-- What a completed evaluation leaves: one sub-structure, whose list is the drive's, and its pairs.
pub record Leaves (cs : List Component) (es : List Entry) (stack : List Tree) (pairs : ℕ) : Type 0 where
  pub tree : Tree
  pub built : trees es ≡ tree ∷ []
  pub left : stack ≡ tree ∷ []
  pub list : list_of cs tree ≡ drive_list es cs
  pub counted : pairs ≡ pair_count cs tree

-- It leaves that where each component is named exactly once, in 2n − 1 entries, and each join finds two lists.
pub method : {cs : List Component} → AllPositive cs → (allowance : ℕ) (es : List Entry)
    → length es + 1 ≡ 2 * length cs → NamedOnce (length cs) es → joins_find_two es 0 ≡ true
    → (stack : List Tree) (pairs : ℕ) → evaluate cs allowance es ≡ completed stack pairs → Leaves cs es stack pairs
method {cs} p allowance es l names two stack pairs e =
    let (t, one, each) = one_tree (length cs) es l names two in
    let (same, count) = evaluate_count cs allowance es stack pairs e in
    record {
      tree = t;
      built = one;
      left = same ∙ one;
      list = sym (drive_is_tree p es t one each);
      counted = omega (arith, count, ap (sum_by (pair_count cs)) (same ∙ one));
    }
