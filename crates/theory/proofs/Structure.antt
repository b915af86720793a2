-- A structure of 2n − 1 entries that names each component once, and whose joins find two lists, leaves one tree that names each once. Assumes nothing.
use Prim.Native.Nat.{ℕ, ◌+◌, ◌*◌}
use mathlib.Core.Path.{◌≡◌, refl, ap}
use mathlib.Core.Bool.{true, false≢true}
use mathlib.Core.List.{List, [], ◌∷◌}
use native.Mathlib.Omega.{arith}
use lib.ListN.{length}
use Rattle.theory.specs.Sums.{sum_by, count_of, EachOnce}
use Rattle.theory.specs.declared.Entry.{Entry}
use Rattle.theory.specs.declared.Entry.TheVariants.{Component as component, Join as join}
use Rattle.theory.specs.Structure.{run, named, NamedOnce, joins_find_two, Tree, leaf, node, trees, leaves}
use Rattle.theory.proofs.Counts.{count_append, once_length}

-- A sub-structure names every component below n once, and no other.
abbrev pub NamesEach : ℕ → Tree → Type 0
NamesEach n t = EachOnce n (leaves t)

-- How often the trees of a stack name a component.
abbrev times_named : ℕ → List Tree → ℕ
times_named i = sum_by (λ t. count_of i (leaves t))

run-named : (i : ℕ) (es : List Entry) (stack : List Tree) → times_named i (run leaf node es stack) ≡ times_named i stack + count_of i (named es)
run-named i [] stack = omega arith
run-named i (component j ∷ es) stack = omega (arith, run-named i es (leaf j ∷ stack))
run-named i (join op ∷ es) [] = run-named i es []
run-named i (join op ∷ es) (y ∷ []) = run-named i es (y ∷ [])
run-named i (join op ∷ es) (y ∷ x ∷ stack) = omega (arith, run-named i es (node op x y ∷ stack), count_append i (leaves x) (leaves y))

-- Each component adds one to the height, each join takes one away.
run_height : (es : List Entry) (stack : List Tree) → joins_find_two es (length stack) ≡ true
    → length (run leaf node es stack) + length es ≡ length stack + 2 * length (named es)
run_height [] stack h = omega arith
run_height (component j ∷ es) stack h = omega (arith, run_height es (leaf j ∷ stack) h)
run_height (join op ∷ es) [] h = absurd (false≢true h)
run_height (join op ∷ es) (y ∷ []) h = absurd (false≢true h)
run_height (join op ∷ es) (y ∷ x ∷ stack) h = omega (arith, run_height es (node op x y ∷ stack) h)

one_left : (ts : List Tree) → length ts ≡ 1 → (t : Tree) × (ts ≡ t ∷ [])
one_left [] h = absurd (omega arith)
one_left (t ∷ []) h = (t, refl)
one_left (t ∷ u ∷ ts) h = absurd (omega arith)

pub named-length : (n : ℕ) (es : List Entry) → NamedOnce n es → length (named es) ≡ n
named-length n es = once_length n (named es)

pub one_tree : (n : ℕ) (es : List Entry) → length es + 1 ≡ 2 * n → NamedOnce n es → joins_find_two es 0 ≡ true
    → (t : Tree) × (trees es ≡ t ∷ []) × NamesEach n t
one_tree n es l names h =
    let (t, one) = one_left (trees es) (omega (arith, run_height es [] h, named-length n es names)) in
    (t, one, λ i. omega (arith, ap (times_named i) one, run-named i es [], names i))
