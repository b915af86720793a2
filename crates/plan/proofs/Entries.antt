-- The entries of a structure: what a code stands for, how often a component is named, and the places of a plan. Assumes nothing.
use borrow.Author.Tests.{ne_eqb, lt-ltb, le-ltb, lt-leb, le-leb, leb-false}
use mathlib.Core.Path.{◌≡◌, refl, sym, ap, ◌∙◌}
use mathlib.Core.Bool.{Bool, true, false, cond, ◌||◌}
use mathlib.Core.List.{List, [], ◌∷◌, ◌++◌, map}
use Prim.Native.Nat.{ℕ, zero, suc, ◌+◌, ◌≤◌, ◌<◌}
use native.Mathlib.Decide.{dec_lt, ℕ_discrete}
use native.Mathlib.Omega.{arith}
use lib.Dec.{leb, eqb}
use lib.ListN.{length, get_or, take, length-map}
use lib.Seq.{take-suc}
use Rattle.std.specs.List.{count_by}
use Rattle.std.proofs.lemmas.List.Recursion.{is_count_by}
use Rattle.theory.specs.Sums.{count_of, count_from}
use Rattle.theory.specs.Limits.{most_components, entry_count}
use Rattle.theory.specs.Codes.{entry_of, series_code, shared_code, spare_code}
use Rattle.theory.specs.declared.Entry.{Entry}
use Rattle.theory.specs.declared.Entry.TheVariants.{Component as component, Join as join}
use Rattle.theory.specs.declared.Join.TheVariants.{Series, Shared, Spare}
use Rattle.theory.specs.Structure.{named}
use Rattle.theory.proofs.Sums.{length_count, length_below, map_count}
use Rattle.block.proofs.Laws.{neither}
use Rattle.plan.specs.declared.Plan.{Plan}
use Rattle.plan.specs.Plan.{component_at, components_of, codes_of, entries_of}
use Rattle.plan.specs.Rules.{bad_entry, bad_code, Rule9InWords}
use Rattle.plan.specs.Valid.{Known, names, joins}

-- What holds of the joins' codes, and of every other code as a component's number, holds of each code.
by_code : (P : ℕ → Entry → Type 0) → P series_code (join Series) → P shared_code (join Shared) → P spare_code (join Spare)
    → (code : ℕ) → ((code ≡ series_code → ⊥) → (code ≡ shared_code → ⊥) → (code ≡ spare_code → ⊥) → P code (component code)) → P code (entry_of code)
by_code P series shared spare code other = elim (ℕ_discrete code series_code) [
  | yes a ↦ rw a series
  | no a ↦ elim (ℕ_discrete code shared_code) [
    | yes b ↦ rw b shared
    | no b ↦ elim (ℕ_discrete code spare_code) [
      | yes d ↦ rw d spare
      | no d ↦ rw (ne_eqb code series_code a, ne_eqb code shared_code b, ne_eqb code spare_code d) (other a b d)
    ]
  ]
]

-- Number 9 in document 01's words.
pub bad_code_is : Rule9InWords
bad_code_is n code = by_code (λ k e. bad_entry n e ≡ bad_code n k) refl refl refl code other
  where
    other : (code ≡ series_code → ⊥) → (code ≡ shared_code → ⊥) → (code ≡ spare_code → ⊥) → (leb most_components code || leb n code) ≡ bad_code n code
    other a b d = elim (dec_lt code 6) [
      | yes l ↦ rw (lt-leb 6 code l, ne_eqb code 6 (omega arith), ne_eqb code 7 (omega arith), le-ltb 10 code (omega arith), lt-ltb code 6 l)
      | no l ↦ elim (ℕ_discrete code 6) [
        | yes x ↦ rw x
        | no x ↦ elim (ℕ_discrete code 7) [
          | yes y ↦ rw y
          | no y ↦ rw (le-leb 6 code (omega arith), ne_eqb code 6 x, ne_eqb code 7 y, lt-ltb 10 code (omega arith))
        ]
      ]
    ]

-- A component that there can be is named as often as its code stands in the structure.
pub times_named : (i : ℕ) → i < most_components → (codes : List ℕ) → count_of i (named (map entry_of codes)) ≡ count_by (eqb i) codes
times_named i h = is_count_by (λ codes. count_of i (named (map entry_of codes))) (eqb i) refl more
  where
    one_more : (b : Bool) (n : ℕ) → cond b 1 0 + n ≡ cond b (1 + n) n
    one_more true n = refl
    one_more false n = omega arith

    more : (code : ℕ) (codes : List ℕ)
        → count_of i (named (entry_of code ∷ map entry_of codes))
        ≡ cond (eqb i code) (1 + count_of i (named (map entry_of codes))) (count_of i (named (map entry_of codes)))
    more code codes =
        let n = count_of i (named (map entry_of codes)) in
        by_code (λ k e. count_of i (named (e ∷ map entry_of codes)) ≡ cond (eqb i k) (1 + n) n) (rw (ne_eqb i series_code (omega arith)))
        (rw (ne_eqb i shared_code (omega arith))) (rw (ne_eqb i spare_code (omega arith))) code (λ a b d. one_more (eqb i code) n)

-- An entry that keeps number 9 is a component below n or a join.
pub known_entry : (n : ℕ) (e : Entry) → bad_entry n e ≡ false → Known n e
known_entry n (component i) e = names (leb-false n i (neither (leb most_components i) (leb n i) e).1)
known_entry n (join op) e = joins

pub known_component : {n i : ℕ} → Known n (component i) → i < n
known_component (names h) = h

-- The code of an entry that keeps number 9 fits four bits.
pub known_fits : (n code : ℕ) → n ≤ most_components → Known n (entry_of code) → code < 16
known_fits n code l =
    by_code (λ k e. Known n e → k < 16) (λ k. omega arith) (λ k. omega arith) (λ k. omega arith) code (λ a b d k. omega (arith, known_component k))

-- The places of a list that counts.
get_or_count : (k n i : ℕ) → i < n → get_or (count_from k n) i 0 ≡ k + i
get_or_count k zero i h = absurd (omega arith)
get_or_count k (suc n) zero h = omega arith
get_or_count k (suc n) (suc i) h = get_or_count (suc k) n i (omega arith) ∙ omega arith

get_d_map : {A B : Type 0} (f : A → B) (xs : List A) (i : ℕ) (a : A) (b : B) → i < length xs → get_or (map f xs) i b ≡ f (get_or xs i a)
get_d_map f [] i a b h = absurd (omega arith)
get_d_map f (x ∷ xs) zero a b h = refl
get_d_map f (x ∷ xs) (suc i) a b h = get_d_map f xs i a b (omega arith)

-- The front of a list is the list of its elements by their places.
pub taken : {A : Type 0} (z : A) (xs : List A) (n : ℕ) → n ≤ length xs → take n xs ≡ map (λ j. get_or xs j z) (count_from 0 n)
taken z xs zero h = refl
taken z xs (suc n) h =
    take-suc xs n z (omega arith) ∙ ap (λ l. l ++ (get_or xs n z ∷ [])) (taken z xs n (omega arith)) ∙ sym (map_count (λ j. get_or xs j z) 0 n n (omega arith))

-- The list of f of each number below n.
module _ {A : Type 0} (f : ℕ → A) (n : ℕ) where
  get_or_below : (z : A) (i : ℕ) → i < n → get_or (map f (count_from 0 n)) i z ≡ f i
  get_or_below z i h =
      get_d_map f (count_from 0 n) i 0 z (omega (arith, length_count 0 n)) ∙ ap f (get_or_count 0 n i h ∙ omega arith)

-- The places of a plan in use.
module _ (p : Plan) where
  pub components_count : length (components_of p) ≡ p.count
  components_count = length_below (component_at p) p.count

  pub codes_count : length (codes_of p) ≡ entry_count p.count
  codes_count = length_below (λ j. get_or p.entries j 0) (entry_count p.count)

  pub code_is : (i : ℕ) → i < entry_count p.count → get_or (codes_of p) i 0 ≡ get_or p.entries i 0
  code_is = get_or_below (λ j. get_or p.entries j 0) (entry_count p.count) 0

  pub entries_count : length (entries_of p) ≡ entry_count p.count
  entries_count = length-map (codes_of p) entry_of ∙ codes_count

  pub entry_is : (i : ℕ) → i < entry_count p.count → get_or (entries_of p) i (component 0) ≡ entry_of (get_or p.entries i 0)
  entry_is i h = get_d_map entry_of (codes_of p) i 0 (component 0) (omega (arith, codes_count)) ∙ ap entry_of (code_is i h)
