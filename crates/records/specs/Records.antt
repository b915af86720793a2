-- "Pairs, allowance and store": a list record has 12 bytes, low 16 bits, high 16 bits, weight 64 bits, each most significant byte
-- first. Assumes nothing.
use Rattle.std.specs.Prelude.{ℕ, zero, suc, ◌+◌, ◌*◌, ◌/◌, ◌%◌, ◌^◌, ◌<◌, List, [], ◌∷◌, ◌++◌, map, get_or, drop}
use Rattle.theory.specs.Sums.{Every}
use Rattle.theory.specs.Focal.{focal, no_focal, weights}
use Rattle.theory.specs.declared.Focal.{Focal}
use Rattle.theory.specs.Limits.{record_bytes}
use Rattle.numbers.specs.Numbers.{big_endian, number_at}
use Rattle.records.specs.declared.view.Records.{Records}

-- The bytes of a record.
unfoldable pub bytes_of : Focal → List ℕ
bytes_of f = big_endian 2 f.low ++ (big_endian 2 f.high ++ big_endian 8 f.weight)

-- The bytes of a list.
unfoldable pub encode : List Focal → List ℕ
encode [] = []
encode (f ∷ fs) = bytes_of f ++ encode fs

-- The record in the first bytes of s.
unfoldable pub head_record : List ℕ → Focal
head_record s = focal (number_at s 0 2) (number_at s 2 2) (number_at s 4 8)

-- The first n records of s.
unfoldable pub records : ℕ → List ℕ → List Focal
records zero s = []
records (suc n) s = head_record s ∷ records n (drop record_bytes s)

-- The list that records are, and interval i of a list.
abbrev pub records_of : Records → List Focal
records_of r = map head_record r.records.now

abbrev pub nth_interval : List Focal → ℕ → Focal
nth_interval l i = get_or l i no_focal

-- Low and high take 16 bits each, so a record holds speeds below this.
abbrev pub speed_limit : ℕ
speed_limit = 65536

-- Both ends are below n.
abbrev pub Under : ℕ → Focal → Type 0
Under n f = (f.low < n) × (f.high < n)

-- Records hold this list as it is: each end below the limit, and all weights together below 2 to the 64th.
abbrev pub Storable : List Focal → Type 0
Storable l = Every (Under speed_limit) l × (weights l < 2 ^ 64)

-- The key: low and high as one number, which orders intervals. `keyed` is the interval of a key, with its weight.
abbrev pub key_of : Focal → ℕ
key_of f = f.low * speed_limit + f.high

abbrev pub keyed : ℕ → ℕ → Focal
keyed key weight = focal (key / speed_limit) (key % speed_limit) weight
