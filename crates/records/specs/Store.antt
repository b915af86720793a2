-- "Pairs, allowance and store": records written and bytes cleared in a buffer, and lists that stand in it. Assumes nothing.
use Rattle.std.specs.Prelude.{ℕ, ◌+◌, ◌*◌, ◌-◌, List, ◌++◌, length, take, drop, replicate}
use Rattle.theory.specs.declared.Focal.{Focal}
use Rattle.theory.specs.Limits.{record_bytes}
use Rattle.records.specs.declared.Span.{Span}
use Rattle.records.specs.Records.{bytes_of, encode, records}

-- In s the n bytes from `start` on are replaced by others.
abbrev pub replaced : List ℕ → ℕ → ℕ → List ℕ → List ℕ
replaced s start n others = take start s ++ (others ++ drop (start + n) s)

-- In s record i is written.
abbrev pub with_record : List ℕ → ℕ → Focal → List ℕ
with_record s i f = replaced s (record_bytes * i) record_bytes (bytes_of f)

-- In s the bytes from `from` up to `to` are zero.
abbrev pub zeroed : List ℕ → ℕ → ℕ → List ℕ
zeroed s from to = take from s ++ (replicate (to - from) 0 ++ drop to s)

-- The list l stands at the front of the buffer s, and all other bytes are as they were.
abbrev pub holding : List ℕ → List Focal → List ℕ
holding s l = encode l ++ drop (record_bytes * length l) s

-- The list of n records from byte `start` of a store on.
abbrev pub list_in : List ℕ → ℕ → ℕ → List Focal
list_in s start n = records n (drop start s)

-- A list of a store.
abbrev pub list_of_span : List ℕ → Span → List Focal
list_of_span s span = list_in s span.start span.count

-- The list l stands in the store s from byte `free` on, and all other bytes are as they were.
abbrev pub holding_from : List ℕ → ℕ → List Focal → List ℕ
holding_from s free l = take free s ++ holding (drop free s) l

-- The store s after a list of it was moved to byte `start`.
abbrev pub moved : List ℕ → Span → ℕ → List ℕ
moved s list start = holding_from s start (list_of_span s list)

-- The list l stands at the front, the rest of the first `end` bytes is zero, later bytes are untouched.
abbrev pub settled : ℕ → List Focal → List ℕ → List ℕ
settled end l s = encode l ++ (replicate (end - record_bytes * length l) 0 ++ drop end s)
