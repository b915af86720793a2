-- Where a new interval goes, lists that are built by one insertion after the other, and how long they get. Assumes nothing.
use Prim.Native.Nat.{ℕ, suc, ◌*◌, ◌≤◌, Ordering}
use mathlib.Core.Path.{◌≡◌, refl, sym, ap, ◌∙◌}
use mathlib.Core.List.{List, [], ◌∷◌, ◌++◌, map}
use native.Mathlib.Nat.{add_assoc, add_comm, zero-mul, suc-mul}
use native.Mathlib.Omega.{arith}
use lib.ListN.{length, length-append, length-map}
use Rattle.theory.specs.Sums.{Every}
use Rattle.theory.specs.declared.Focal.{Focal}
use Rattle.theory.specs.declared.Join.{Join}
use Rattle.theory.specs.Joins.{joined_by, pairs_by}
use Rattle.theory.specs.Lists.{join_lists_by}
use Rattle.theory.specs.Order.{order, Before, merged, inserted_at, inserted, collect}
use Rattle.theory.proofs.Order.{Placed, placed, before_trans, before_same, order_is}

-- A new interval goes behind those before it and in front of those after it; with an equal one it becomes one.
pub insert_skip : (f : Focal) {fs : List Focal} → Every (λ g. Before g f) fs → (gs : List Focal) → inserted f (fs ++ gs) ≡ fs ++ inserted f gs
insert_skip f Every.none gs = refl
insert_skip f (Every.more {x = g} {xs = fs} p r) gs = rw (order_is f g (Placed.after p)) (ap (g ∷◌) (insert_skip f r gs))

pub insert_here : (f g : Focal) → Before f g → (gs : List Focal) → inserted f (g ∷ gs) ≡ f ∷ g ∷ gs
insert_here f g b gs = rw (order_is f g (Placed.before b)) refl

pub insert_same : (f g : Focal) → f.low ≡ g.low → f.high ≡ g.high → (gs : List Focal)
    → inserted f (g ∷ gs) ≡ merged f g ∷ gs
insert_same f g p q gs = rw (order_is f g (Placed.same p q)) refl

pub insert_after : (f g : Focal) → Before g f → (gs : List Focal) → inserted f (g ∷ gs) ≡ g ∷ inserted f gs
insert_after f g b gs = rw (order_is f g (Placed.after b)) refl

-- Insertion commutes, whatever the weights: of two intervals either one comes before the other, or they become one.
earlier_first : (f g h : Focal) → Before f g → Before f h → (l : List Focal) → inserted f (inserted g (h ∷ l)) ≡ f ∷ inserted g (h ∷ l)
earlier_first f g h b c l = go (order g h)
  where
    go : (o : Ordering) → inserted f (inserted_at o g h l (inserted g l)) ≡ f ∷ inserted_at o g h l (inserted g l)
    go Ordering.lt = insert_here f g b (h ∷ l)
    go Ordering.eq = insert_here f (merged g h) c l
    go Ordering.gt = insert_here f h c (inserted g l)

commute_before : (f g : Focal) → Before f g → (l : List Focal) → inserted f (inserted g l) ≡ inserted g (inserted f l)
commute_before f g b [] = insert_here f g b [] ∙ sym (insert_after g f b [])
commute_before f g b (h ∷ l) = go (placed f h) (commute_before f g b l)
  where
    go : {o : Ordering} → Placed f h o → inserted f (inserted g l) ≡ inserted g (inserted f l)
        → inserted f (inserted g (h ∷ l)) ≡ inserted g (inserted_at o f h l (inserted f l))
    go (Placed.before c) r = earlier_first f g h b c l ∙ sym (insert_after g f b (h ∷ l))
    go (Placed.same p q) r =
        let c : Before h g = before_same f g h p q b in
        rw (insert_after g h c l, insert_same f h p q (inserted g l)) (sym (insert_after g (merged f h) c l))
    go (Placed.after c) r =
        let d : Before h g = before_trans h f g c b in
        rw (insert_after g h d l, insert_after f h c (inserted g l), insert_after g h d (inserted f l)) (ap (h ∷◌) r)

pub insert_merged : (f g : Focal) → f.low ≡ g.low → f.high ≡ g.high → (l : List Focal) → inserted f (inserted g l) ≡ inserted (merged f g) l
insert_merged f g p q [] = insert_same f g p q []
insert_merged f g p q (h ∷ l) = go (placed g h) (insert_merged f g p q l)
  where
    go : {o : Ordering} → Placed g h o → inserted f (inserted g l) ≡ inserted (merged f g) l
        → inserted f (inserted_at o g h l (inserted g l)) ≡ inserted_at o (merged f g) h l (inserted (merged f g) l)
    go (Placed.before c) r = insert_same f g p q (h ∷ l)
    go (Placed.same s t) r =
        insert_same f (merged g h) (p ∙ s) (q ∙ t) l ∙ (λ i. record { low = h.low; high = h.high; weight = sym (add_assoc f.weight g.weight h.weight) i } ∷ l)
    go (Placed.after c) r =
        let e : order f h ≡ Ordering.gt = rw (p, q) (order_is g h (Placed.after c)) in
        rw e (ap (h ∷◌) r)

merged_comm : (f g : Focal) → f.low ≡ g.low → f.high ≡ g.high → merged f g ≡ merged g f
merged_comm f g p q i = record { low = sym p i; high = sym q i; weight = add_comm f.weight g.weight i }

pub insert_commute : (f g : Focal) (l : List Focal) → inserted f (inserted g l) ≡ inserted g (inserted f l)
insert_commute f g l = go (placed f g)
  where
    go : {o : Ordering} → Placed f g o → inserted f (inserted g l) ≡ inserted g (inserted f l)
    go (Placed.before b) = commute_before f g b l
    go (Placed.same p q) =
        insert_merged f g p q l ∙ (ap (λ (h : Focal). inserted h l) (merged_comm f g p q) ∙ sym (insert_merged g f (sym p) (sym q) l))
    go (Placed.after b) = sym (commute_before g f b l)

-- All of fs inserted into a list, one after the other from the left.
abbrev pub insert_all : List Focal → List Focal → List Focal
insert_all l [] = l
insert_all l (f ∷ fs) = insert_all (inserted f l) fs

-- One insertion after the other collects.
insert_all_insert : (f : Focal) (l fs : List Focal) → insert_all (inserted f l) fs ≡ inserted f (insert_all l fs)
insert_all_insert f l [] = refl
insert_all_insert f l (g ∷ fs) = ap (λ (k : List Focal). insert_all k fs) (insert_commute g f l) ∙ insert_all_insert f (inserted g l) fs

pub insert_all-collect : (fs : List Focal) → insert_all [] fs ≡ collect fs
insert_all-collect [] = refl
insert_all-collect (f ∷ fs) = insert_all_insert f [] fs ∙ ap (inserted f) (insert_all-collect fs)

-- A list grows by at most one, and never shrinks.
pub length_insert : (f : Focal) (gs : List Focal) → (length gs ≤ length (inserted f gs)) × (length (inserted f gs) ≤ suc (length gs))
length_insert f [] = omega arith
length_insert f (g ∷ gs) = go (order f g) (length_insert f gs)
  where
    go : (o : Ordering) → (length gs ≤ length (inserted f gs)) × (length (inserted f gs) ≤ suc (length gs))
        → (suc (length gs) ≤ length (inserted_at o f g gs (inserted f gs))) × (length (inserted_at o f g gs (inserted f gs)) ≤ suc (suc (length gs)))
    go Ordering.lt h = omega arith
    go Ordering.eq h = omega arith
    go Ordering.gt h = omega arith

pub length-collect : (fs : List Focal) → length (collect fs) ≤ length fs
length-collect [] = omega arith
length-collect (f ∷ fs) = omega (arith, length_insert f (collect fs), length-collect fs)

-- A join's list has at most as many intervals as pairs are formed.
module _ (times : ℕ → ℕ → ℕ) (op : Join) where
  length-pairs : (fs gs : List Focal) → length (pairs_by times op fs gs) ≡ length fs * length gs
  length-pairs [] gs = sym (zero-mul (length gs))
  length-pairs (f ∷ fs) gs =
      omega
      (arith, length-append (map (joined_by times op f) gs) (pairs_by times op fs gs), length-map gs (joined_by times op f), length-pairs fs gs, suc-mul (length fs) (length gs))

  pub length-join : (fs gs : List Focal) → length (join_lists_by times op fs gs) ≤ length fs * length gs
  length-join fs gs = omega (arith, length-collect (pairs_by times op fs gs), length-pairs fs gs)
