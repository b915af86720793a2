-- A plan as bytes, as C hosts pass it: numbers of 16 bits at fixed places, each most significant byte first, each taken as it stands.
-- Assumes nothing.
use Rattle.std.specs.Prelude.{ℕ, ◌+◌, ◌*◌, ◌≤◌, ◌≡◌, List, ◌∷◌, ◌++◌, map, length, take, drop}
use Rattle.theory.specs.Limits.{most_held, most_components, most_entries}
use Rattle.theory.specs.Sums.{count_from, for_each}
use Rattle.theory.specs.declared.Component.{Component}
use Rattle.numbers.specs.Numbers.{Bytes, big_endian, number_at}
use Rattle.plan.specs.declared.Plan.{Plan}

-- The bytes of a number.
abbrev pub number_bytes : ℕ
number_bytes = 2

-- How many numbers a component has: k, T, eight lows, eight highs, eight weights.
abbrev pub component_size : ℕ
component_size = 2 + 3 * most_held

-- The first number of component i: n stands before the components.
abbrev pub component_start : ℕ → ℕ
component_start i = 1 + component_size * i

-- The first entry, behind the six components.
abbrev pub entries_start : ℕ
entries_start = component_start most_components

-- The bytes of a plan, 336.
abbrev pub plan_bytes : ℕ
plan_bytes = number_bytes * (entries_start + most_entries)

-- Number i, and m numbers from number i on.
abbrev pub number_in : List ℕ → ℕ → ℕ
number_in s i = number_at s (number_bytes * i) number_bytes

abbrev pub numbers_in : List ℕ → ℕ → ℕ → List ℕ
numbers_in s i m = map (λ j. number_in s (i + j)) (count_from 0 m)

-- The component whose numbers start at number i.
unfoldable pub decode_component : List ℕ → ℕ → Component
decode_component s i =
    record {
      count = number_in s i;
      total = number_in s (i + 1);
      lows = numbers_in s (i + 2) most_held;
      highs = numbers_in s (i + 2 + most_held) most_held;
      weights = numbers_in s (i + 2 + 2 * most_held) most_held;
    }

-- The m components whose numbers start at number i.
abbrev pub components_in : List ℕ → ℕ → ℕ → List Component
components_in s i m = map (λ j. decode_component s (i + component_size * j)) (count_from 0 m)

-- The plan that bytes spell.
unfoldable pub decode_plan : List ℕ → Plan
decode_plan s =
    record {
      count = number_in s 0;
      components = components_in s 1 most_components;
      entries = numbers_in s entries_start most_entries;
    }

-- Numbers as bytes.
abbrev pub encode_numbers : List ℕ → List ℕ
encode_numbers ns = for_each ns (big_endian number_bytes)

-- Bytes with the m numbers ns put in from number i on.
abbrev pub with_numbers : List ℕ → ℕ → ℕ → List ℕ → List ℕ
with_numbers s i m ns = take (number_bytes * i) s ++ (encode_numbers ns ++ drop (number_bytes * (i + m)) s)

-- The numbers of a component, and of a plan.
abbrev pub component_numbers_of : Component → List ℕ
component_numbers_of c = c.count ∷ c.total ∷ (c.lows ++ (c.highs ++ c.weights))

abbrev pub plan_numbers_of : Plan → List ℕ
plan_numbers_of p = p.count ∷ (for_each p.components component_numbers_of ++ p.entries)

-- A plan as bytes.
unfoldable pub encode_plan : Plan → List ℕ
encode_plan p = encode_numbers (plan_numbers_of p)

-- Every number is taken as it stands: the plan that bytes spell has no other bytes (proved: `RoundTrip.bytes_back`).
abbrev pub AsTheyStand : Type 0
AsTheyStand = (s : List ℕ) → Bytes s → plan_bytes ≤ length s → encode_plan (decode_plan s) ≡ take plan_bytes s
