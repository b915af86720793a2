-- The shares of a set are read back from their bytes. Assumes nothing.
use Prim.Native.Nat.{ℕ, zero, suc, ◌+◌, ◌*◌, ◌^◌, ◌<◌}
use mathlib.Core.Path.{◌≡◌, refl, ◌∙◌}
use mathlib.Core.List.{List, [], ◌∷◌, ◌++◌, append_assoc}
use native.Mathlib.Omega.{arith}
use lib.ListN.{length, get_or, length-append}
use Rattle.theory.specs.declared.Focal.{Focal}
use Rattle.numbers.specs.Numbers.{big_endian, number_at}
use Rattle.numbers.proofs.Numbers.{length-big_endian, read_front, read_behind, read_past}
use Rattle.queries.specs.declared.Shares.{Shares}
use Rattle.queries.specs.Shares.{shares_of, shares_bytes, encode_shares, encode_set}

length_shares : (s : Shares) → length (encode_shares s) ≡ shares_bytes
unfolding encode_shares
length_shares s = simp (length-append, length-big_endian)

-- As many bytes as the demands take.
pub length-set : (demands : List ℕ) (l : List Focal) → length (encode_set demands l) ≡ shares_bytes * length demands
length-set [] l = refl
length-set (d ∷ ds) l = simp length-append (omega (arith, length_shares (shares_of d l), length-set ds l))

-- Two shares at the front.
pub belief_read : (s : Shares) (rest : List ℕ) → s.belief < 2 ^ 64 → number_at (encode_shares s ++ rest) 0 8 ≡ s.belief
unfolding encode_shares
belief_read s rest h =
    rw (append_assoc (big_endian 8 s.belief) (big_endian 8 s.plausibility) rest) (read_front 8 s.belief (big_endian 8 s.plausibility ++ rest) h)

pub plausibility_read : (s : Shares) (rest : List ℕ) → s.plausibility < 2 ^ 64 → number_at (encode_shares s ++ rest) 8 8 ≡ s.plausibility
unfolding encode_shares
plausibility_read s rest h =
    rw (append_assoc (big_endian 8 s.belief) (big_endian 8 s.plausibility) rest)
    (read_behind 8 s.belief (big_endian 8 s.plausibility ++ rest) 0 8 ∙ read_front 8 s.plausibility rest h)

-- Those of place i stand behind those of the places before it.
pub at_place : (demands : List ℕ) (l : List Focal) (rest : List ℕ) (i k : ℕ) → i < length demands
    → (behind : List ℕ) × (number_at (encode_set demands l ++ rest) (shares_bytes * i + k) 8 ≡ number_at (encode_shares (shares_of (get_or demands i 0) l) ++ behind) k 8)
at_place [] l rest i k h = absurd (omega arith)
at_place (d ∷ ds) l rest zero k h =
    let place : shares_bytes * zero + k ≡ k = omega arith in
    (encode_set ds l ++ rest, rw (place, append_assoc (encode_shares (shares_of d l)) (encode_set ds l) rest) refl)
at_place (d ∷ ds) l rest (suc i) k h =
    let (behind, e) = at_place ds l rest i k (omega arith) in
    let place : shares_bytes * suc i + k ≡ shares_bytes + (shares_bytes * i + k) = omega arith in
    let first : List ℕ = encode_shares (shares_of d l) in (
      behind,
      rw (place, append_assoc first (encode_set ds l) rest)
          (read_past first (encode_set ds l ++ rest) shares_bytes (shares_bytes * i + k) 8 (length_shares (shares_of d l)) ∙ e),
    )
