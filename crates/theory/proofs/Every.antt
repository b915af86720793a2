-- Laws of a property of each element of a list. Assumes nothing.
use Prim.Native.Nat.{ℕ, zero, suc, ◌<◌}
use mathlib.Core.Path.{◌≡◌, sym, ◌∙◌}
use mathlib.Core.List.{List, [], ◌∷◌, ◌++◌, map}
use native.Mathlib.Omega.{arith}
use lib.ListN.{length, get_or, replicate, set}
use Rattle.std.specs.Array.{AllOfLen}
use Rattle.std.proofs.lemmas.List.{length-replicate, get_or-replicate, ext_get_or}
use Rattle.theory.specs.Sums.{for_each, one_of_each, Every}

pub every_map : {A : Type 0} {P Q : A → Type 0} → ((x : A) → P x → Q x) → {xs : List A} → Every P xs → Every Q xs
every_map h Every.none = Every.none
every_map h (Every.more {x = x} p r) = Every.more (h x p) (every_map h r)

pub every_all : {A : Type 0} {P : A → Type 0} → ((x : A) → P x) → (xs : List A) → Every P xs
every_all h [] = Every.none
every_all h (x ∷ xs) = Every.more (h x) (every_all h xs)

-- The property holds of an element, or of what stands past the end.
pub every_get_or : {A : Type 0} (P : A → Type 0) (z : A) → P z → {xs : List A} → Every P xs → (i : ℕ) → P (get_or xs i z)
every_get_or P z e Every.none i = e
every_get_or P z e (Every.more p r) zero = p
every_get_or P z e (Every.more p r) (suc i) = every_get_or P z e r i

pub every_append : {A : Type 0} {P : A → Type 0} {xs ys : List A} → Every P xs → Every P ys → Every P (xs ++ ys)
every_append Every.none q = q
every_append (Every.more p r) q = Every.more p (every_append r q)

pub every_split : {A : Type 0} {P : A → Type 0} (xs : List A) {ys : List A} → Every P (xs ++ ys) → Every P xs × Every P ys
every_split [] h = (Every.none, h)
every_split (x ∷ xs) (Every.more p r) = let q = every_split xs r in (Every.more p q.0, q.1)

pub every_image : {A B : Type 0} {P : B → Type 0} {Q : A → Type 0} (g : A → B) → ((x : A) → Q x → P (g x)) → {xs : List A} → Every Q xs → Every P (map g xs)
every_image g h Every.none = Every.none
every_image g h (Every.more {x = x} p r) = Every.more (h x p) (every_image g h r)

-- What holds of each element of each list of a row holds of each element taken.
every_each : {A : Type 0} {P : A → Type 0} {l : List A} → Every P l → (ts : List (List A)) → Every (Every P) ts → Every (Every P) (for_each l (λ x. map (x ∷◌) ts))
every_each Every.none ts q = Every.none
every_each (Every.more {x = x} p r) ts q = every_append (every_image (x ∷◌) (λ t s. Every.more p s) q) (every_each r ts q)

pub every_one_of_each : {A : Type 0} {P : A → Type 0} {ls : List (List A)} → Every (Every P) ls → Every (Every P) (one_of_each ls)
every_one_of_each Every.none = Every.more Every.none Every.none
every_one_of_each (Every.more {xs = ls} p r) = every_each p (one_of_each ls) (every_one_of_each r)

-- The property holds of an element within the list.
pub index_of_every : {A : Type 0} {P : A → Type 0} (z : A) {xs : List A} → Every P xs → (i : ℕ) → i < length xs → P (get_or xs i z)
index_of_every z Every.none i h = absurd (omega arith)
index_of_every z (Every.more p r) zero h = p
index_of_every z (Every.more p r) (suc i) h = index_of_every z r i (omega arith)

pub every_replicate : {A : Type 0} {P : A → Type 0} (x : A) (n : ℕ) → P x → Every P (replicate n x)
every_replicate x zero h = Every.none
every_replicate x (suc n) h = Every.more h (every_replicate x n h)

pub every_set : {A : Type 0} {P : A → Type 0} {xs : List A} {x : A} → Every P xs → (i : ℕ) → P x → Every P (set xs i x)
every_set Every.none i h = Every.none
every_set (Every.more p r) zero h = Every.more h r
every_set (Every.more p r) (suc i) h = Every.more p (every_set r i h)

-- An array by default: each of its elements is the same.
pub all_alike : {A : Type 0} {P : A → Type 0} (z : A) → ((x : A) → P x → x ≡ z) → {xs : List A} (n : ℕ) → AllOfLen P xs n → xs ≡ replicate n z
all_alike z h {xs} n a =
    ext_get_or z xs (replicate n z) (a.long ∙ sym (length-replicate n z))
    (λ i l. h _ (a.at i z (rw a.long at l)) ∙ sym (get_or-replicate n i z z (rw a.long at l)))
