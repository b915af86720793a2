-- "The sheet": a component's block, as it stands at the front of a list of bytes, and as it is written. Assumes nothing.
use Rattle.std.specs.Prelude.{ℕ, zero, suc, ◌+◌, ◌-◌, ◌*◌, ◌/◌, Bool, cond, ◌||◌, Option, Some, None, List, [], ◌∷◌, ◌++◌, ltb, length, replicate}
use Rattle.field.specs.Bits.{field_at}
use Rattle.field.specs.Fields.{bits}
use Rattle.field.specs.declared.Field.{Field}
use Rattle.theory.specs.Limits.{most_held}
use Rattle.theory.specs.Focal.{focal_at}
use Rattle.theory.specs.declared.Focal.{Focal}
use Rattle.theory.specs.declared.Component.{Component}
use Rattle.block.specs.Rows.{row}
use Rattle.block.specs.declared.Block.{Block}

-- The fields of a block: interval count k 4 bits, 2 zero bits, T 10 bits,
abbrev pub count_bits : ℕ
count_bits = 4

abbrev pub zero_bits : ℕ
zero_bits = 2

abbrev pub total_bits : ℕ
total_bits = 10

-- Then k times: low 12, high 12, weight 10 bits.
abbrev pub speed_bits : ℕ
speed_bits = 12

abbrev pub weight_bits : ℕ
weight_bits = 10

-- The bits before the intervals, and those of each interval.
abbrev pub head_bits : ℕ
head_bits = count_bits + zero_bits + total_bits

abbrev pub interval_bits : ℕ
interval_bits = speed_bits + speed_bits + weight_bits

-- The bit at which interval i of a block starts; behind the last one the padding starts.
abbrev pub place_of : ℕ → ℕ
place_of i = head_bits + interval_bits * i

-- The bytes of a block of k intervals.
abbrev pub size_of : ℕ → ℕ
size_of k = (place_of k + 7) / 8

-- Its zero bits up to the byte.
abbrev pub padding_of : ℕ → ℕ
padding_of k = 8 * size_of k - place_of k

-- What stands in the block at the front of s: k, T, the interval at a bit, and interval i.
abbrev pub count_in : List ℕ → ℕ
count_in s = field_at s 0 count_bits

abbrev pub total_in : List ℕ → ℕ
total_in s = field_at s (count_bits + zero_bits) total_bits

abbrev pub interval_at : List ℕ → ℕ → Focal
interval_at s place =
    record {
      low = field_at s place speed_bits;
      high = field_at s (place + speed_bits) speed_bits;
      weight = field_at s (place + speed_bits + speed_bits) weight_bits;
    }

abbrev pub interval_in : List ℕ → ℕ → Focal
interval_in s i = interval_at s (place_of i)

-- Number 4 of a block: its k is not 1 to 8, or it is cut short.
unfoldable pub cut_short : List ℕ → Bool
cut_short s = ltb (count_in s) 1 || ltb most_held (count_in s) || ltb (length s) (size_of (count_in s))

-- Number 5 of a block: a bit named zero is one.
unfoldable pub bad_zero_bits : List ℕ → Bool
bad_zero_bits s = ltb 0 (field_at s count_bits zero_bits) || ltb 0 (field_at s (place_of (count_in s)) (padding_of (count_in s)))

-- A component whose first k places are filled with intervals; the unused places are zero.
abbrev pub filled_with : (ℕ → Focal) → ℕ → ℕ → ℕ → Component
filled_with f k n t =
    record {
      lows = row 0 most_held (λ i. (f i).low) k;
      highs = row 0 most_held (λ i. (f i).high) k;
      weights = row 0 most_held (λ i. (f i).weight) k;
      count = n;
      total = t;
    }

-- The component of k intervals and the total t that is read at the front of s.
unfoldable pub component_of : List ℕ → ℕ → ℕ → Component
component_of s k t = filled_with (interval_in s) k k t

abbrev pub component_in : List ℕ → Component
component_in s = component_of s (count_in s) (total_in s)

-- The component with its unused places zero.
unfoldable pub cleaned : Component → Component
cleaned c = filled_with (focal_at c) c.count c.count c.total

-- The component of zeros.
abbrev pub zero_component : Component
zero_component = record { lows = replicate most_held 0; highs = replicate most_held 0; weights = replicate most_held 0; count = 0; total = 0 }

-- What is read at the front of s: no block where it is cut short or its k is not 1 to 8.
unfoldable pub block_in : List ℕ → Option Block
block_in s = cond (cut_short s) None (Some (record { nonzero = bad_zero_bits s; size = size_of (count_in s); component = component_in s }))

-- A block as it is written: an interval's fields, those of the first n intervals, and all.
abbrev pub interval_of : Component → ℕ → List Field
interval_of c i = bits speed_bits (focal_at c i).low ∷ bits speed_bits (focal_at c i).high ∷ bits weight_bits (focal_at c i).weight ∷ []

unfoldable pub intervals_of : Component → ℕ → List Field
intervals_of c zero = []
intervals_of c (suc n) = intervals_of c n ++ interval_of c n

unfoldable pub fields_of : Component → List Field
fields_of c =
    bits count_bits c.count
    ∷ bits zero_bits 0
    ∷ bits total_bits c.total
    ∷ (intervals_of c c.count ++ (bits (padding_of c.count) 0 ∷ []))
