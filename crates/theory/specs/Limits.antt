-- The limits of documents 01 and 02, each number once; the constants of src/lib.rt are the same. Assumes nothing.
use Rattle.std.specs.Prelude.{ℕ, ◌+◌, ◌-◌, ◌*◌}

-- The highest speed, of a component and of a drive, in millimetres a second; the lowest is 0.
abbrev pub top_speed : ℕ
top_speed = 4095

-- The most intervals that a component holds (k), and its highest total T.
abbrev pub most_held : ℕ
most_held = 8

abbrev pub most_total : ℕ
most_total = 1000

-- The most focal elements of a component's mass assignment: those listed, and the rest.
abbrev pub most_masses : ℕ
most_masses = most_held + 1

-- The most components of a drive (n).
abbrev pub most_components : ℕ
most_components = 6

-- A structure of n components has 2n − 1 entries.
abbrev pub entry_count : ℕ → ℕ
entry_count n = 2 * n - 1

abbrev pub most_entries : ℕ
most_entries = entry_count most_components

-- The most different intervals that a join's list may have.
abbrev pub most_intervals : ℕ
most_intervals = 256

-- The bytes of a list record, and of the longest list.
abbrev pub record_bytes : ℕ
record_bytes = 12

abbrev pub list_bytes : ℕ
list_bytes = record_bytes * most_intervals

-- The bytes that the store (document 01: the list buffer) needs: 768 records.
abbrev pub store_bytes : ℕ
store_bytes = 9216

-- A target is a share in thousandths, 1 to 1,000.
abbrev pub thousandths : ℕ
thousandths = 1000

-- The most demands of one call.
abbrev pub most_demands : ℕ
most_demands = 16
