-- Laws of numbers written as bytes, one behind the other. Assumes nothing.
use Prim.Native.Nat.{ℕ, ◌+◌, ◌*◌, ◌≤◌, ◌<◌}
use mathlib.Core.Path.{◌≡◌, ap, ◌∙◌}
use mathlib.Core.List.{List, [], ◌∷◌, ◌++◌, append_assoc, append-nil}
use native.Mathlib.Omega.{arith}
use lib.ListN.{length, take, get_or}
use Rattle.theory.specs.declared.Component.{Component}
use Rattle.theory.specs.Lists.{no_component}
use Rattle.theory.specs.Sums.{for_each}
use Rattle.theory.proofs.Sums.{for_each-append, for_each_next}
use Rattle.numbers.specs.Numbers.{big_endian}
use Rattle.numbers.proofs.Numbers.{Placed, placed_next}
use Rattle.plan.specs.declared.Plan.{Plan}
use Rattle.wire.specs.Wire.{number_bytes, encode_numbers, with_numbers, component_numbers_of, encode_plan}

pub encode_append : (xs ys : List ℕ) → encode_numbers (xs ++ ys) ≡ encode_numbers xs ++ encode_numbers ys
encode_append = for_each-append (big_endian number_bytes)

-- n numbers put in where xs end stand behind xs.
pub numbers_placed : {s t e xs : List ℕ} {k m : ℕ} (i n : ℕ) (ns : List ℕ) → Placed s k m xs t → number_bytes * i ≡ m → number_bytes * (i + n) ≤ length t
    → length e ≡ length t → e ≡ with_numbers t i n ns → Placed s k (number_bytes * (i + n)) (xs ++ encode_numbers ns) e
numbers_placed i n ns p a b l q = placed_next (number_bytes * i) (number_bytes * (i + n)) (encode_numbers ns) p a (omega arith) b l q

-- The parts of a component one behind the other.
pub component_parts : (c : Component)
    → (((big_endian 2 c.count ++ encode_numbers (c.total ∷ [])) ++ encode_numbers c.lows) ++ encode_numbers c.highs) ++ encode_numbers c.weights
    ≡ encode_numbers (component_numbers_of c)
component_parts c = rw (encode_append c.lows (c.highs ++ c.weights), encode_append c.highs c.weights, append-nil) (simp append_assoc)

-- One component more.
pub encoded_next : (cs : List Component) (i : ℕ) → i < length cs
    → encode_numbers (for_each (take (i + 1) cs) component_numbers_of)
    ≡ encode_numbers (for_each (take i cs) component_numbers_of) ++ encode_numbers (component_numbers_of (get_or cs i no_component))
encoded_next cs i h = ap encode_numbers (for_each_next component_numbers_of cs i no_component h) ∙ encode_append (for_each (take i cs) component_numbers_of) _

-- The parts of a plan one behind the other.
pub plan_parts : (p : Plan)
    → (big_endian 2 p.count ++ encode_numbers (for_each p.components component_numbers_of)) ++ encode_numbers p.entries ≡ encode_plan p
unfolding encode_plan
plan_parts p = rw (encode_append (for_each p.components component_numbers_of) p.entries) (simp append_assoc)
