-- Bytes cut into records. Assumes nothing.
use Rattle.std.specs.Prelude.{ℕ, List, [], get_or}
use Rattle.numbers.specs.Numbers.{Bytes}

-- Each is a list of bytes.
abbrev pub AllBytes : List (List ℕ) → Type 0
AllBytes rs = (i : ℕ) → Bytes (get_or rs i [])
