-- "The sheet": its edition, and the widths of the fields that stand outside the blocks. The constants of src/lib.rt are the same.
-- Assumes nothing.
use Rattle.std.specs.Prelude.{ℕ}

-- The head has 2 bytes: edition 4 bits (value 1), component count n 4 bits, sheet length in bytes 8 bits.
abbrev pub head_bytes : ℕ
head_bytes = 2

abbrev pub edition : ℕ
edition = 1

abbrev pub edition_bits : ℕ
edition_bits = 4

abbrev pub component_count_bits : ℕ
component_count_bits = 4

abbrev pub length_bits : ℕ
length_bits = 8

-- An entry of the structure has 4 bits, and so have the zero bits behind the last one.
abbrev pub entry_bits : ℕ
entry_bits = 4
