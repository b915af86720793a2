-- "Joins": what is asked of a list, its shares at a demand; and at each of a set of demands, as bytes, with the tests of such a set (document
-- 02, request three). Assumes nothing.
use Rattle.std.specs.Prelude.{ℕ, ◌*◌, ◌^◌, ◌<◌, List, [], ◌∷◌, ◌++◌, ltb}
use Rattle.theory.specs.Sums.{for_each}
use Rattle.theory.specs.Limits.{most_demands}
use Rattle.theory.specs.Focal.{weights}
use Rattle.theory.specs.declared.Focal.{Focal}
use Rattle.theory.specs.Choices.{belief, plausibility}
use Rattle.numbers.specs.Numbers.{big_endian}
use Rattle.plan.specs.Tests.{Test, test, outside}
use Rattle.queries.specs.declared.Shares.{Shares}

-- Belief and plausibility of a list at a demand.
abbrev pub shares_of : ℕ → List Focal → Shares
shares_of demand l = record { belief = belief demand l; plausibility = plausibility demand l }

-- How many bytes the two take, and the two as bytes: belief, then plausibility, 8 bytes apiece, most significant first.
abbrev pub shares_bytes : ℕ
shares_bytes = 16

unfoldable pub encode_shares : Shares → List ℕ
encode_shares s = big_endian 8 s.belief ++ big_endian 8 s.plausibility

-- The shares of a list at each of the demands, in the order asked.
abbrev pub encode_set : List ℕ → List Focal → List ℕ
encode_set demands l = for_each demands (λ demand. encode_shares (shares_of demand l))

-- 17: the number of demands is not 1 to 16; then 18: the shares' buffer (document 02: the answer buffer) has fewer than 16 bytes for each
-- demand.
abbrev pub demand_tests : ℕ → ℕ → List Test
demand_tests count bytes = test 17 (outside 1 most_demands count) ∷ test 18 (ltb bytes (shares_bytes * count)) ∷ []

-- What every question asks of its caller: the weights of the list together fit 64 bits.
abbrev pub Summable : List Focal → Type 0
Summable l = weights l < 2 ^ 64
