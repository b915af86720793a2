-- The demands of a set as bytes, as C hosts pass them: 4 bytes each, most significant first. Assumes nothing.
use Rattle.std.specs.Prelude.{ℕ, ◌*◌, ◌/◌, ◌%◌, ◌≤◌, ◌≡◌, cond, ◌&&◌, List, map, leb, eqb, length}
use Rattle.theory.specs.Limits.{most_demands}
use Rattle.theory.specs.Sums.{count_from}
use Rattle.numbers.specs.Numbers.{number_at}
use Rattle.block.specs.Rows.{row}
use Rattle.wire.specs.declared.Demands.{Demands}

-- The bytes of a demand.
abbrev pub demand_bytes : ℕ
demand_bytes = 4

-- How many demands so many bytes are: a length that is not 4 times 1 to 16 is none, so that the number is 17.
abbrev pub demand_count : ℕ → ℕ
demand_count bytes = cond (eqb (bytes % demand_bytes) 0 && leb bytes (demand_bytes * most_demands)) (bytes / demand_bytes) 0

-- Demand i, and all of them.
abbrev pub demand_at : List ℕ → ℕ → ℕ
demand_at s i = number_at s (demand_bytes * i) demand_bytes

abbrev pub demands_in : List ℕ → List ℕ
demands_in s = map (demand_at s) (count_from 0 (demand_count (length s)))

-- All of them as a value: sixteen places, of which the first `count` are used and the others 0.
unfoldable pub decode_demands : List ℕ → Demands
decode_demands s = record { count = demand_count (length s); values = row 0 most_demands (demand_at s) (demand_count (length s)) }

-- What that comes to: 4 n bytes, n up to 16, are n demands, and any other length is none (proved: `Decoding.lengths`).
pub record Lengths : Type 0 where
  pub whole : (n : ℕ) → n ≤ most_demands → demand_count (demand_bytes * n) ≡ n
  pub other : (bytes : ℕ) → ((n : ℕ) → n ≤ most_demands → bytes ≡ demand_bytes * n → ⊥) → demand_count bytes ≡ 0
