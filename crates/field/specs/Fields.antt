-- Fields: where one may stand, how some stand in bytes in a row, and bytes with them put in. Assumes nothing.
use Rattle.std.specs.Prelude.{◌≡◌, List, [], ◌∷◌, ℕ, ◌+◌, ◌*◌, ◌^◌, ◌≤◌, ◌<◌, length}
use Rattle.field.specs.Bits.{field_at, put_at}
use Rattle.field.specs.declared.Field.{Field}

-- The w bits from bit a, at most `most`, lie inside the bytes s and end by bit 65,536.
pub record BitsInside (most : ℕ) (s : List ℕ) (a w : ℕ) : Type 0 where
  pub narrow : w ≤ most
  pub within : a + w ≤ 8 * length s
  pub near : a + w ≤ 65536

-- A field: a number of 32 bits.
abbrev pub FieldInside : List ℕ → ℕ → ℕ → Type 0
FieldInside = BitsInside 32

-- A window: with up to seven bits before it, a number of 64.
abbrev pub WindowInside : List ℕ → ℕ → ℕ → Type 0
WindowInside = BitsInside 57

-- The field of w bits with the number v.
abbrev pub bits : ℕ → ℕ → Field
bits w v = record { width = w; value = v }

-- Each of these fields, in a row from bit a, may stand in s.
unfoldable pub FieldsInside : List ℕ → ℕ → List Field → Type 0
FieldsInside s a [] = Unit {0}
FieldsInside s a (f ∷ fs) = FieldInside s a f.width × FieldsInside s (a + f.width) fs

-- How many bits fields take.
unfoldable pub width_of : List Field → ℕ
width_of [] = 0
width_of (f ∷ fs) = f.width + width_of fs

-- Each number is below two to its width.
unfoldable pub Fitting : List Field → Type 0
Fitting [] = Unit {0}
Fitting (f ∷ fs) = (f.value < 2 ^ f.width) × Fitting fs

-- The fields stand in s, in a row, from bit a.
unfoldable pub Holds : List ℕ → ℕ → List Field → Type 0
Holds s a [] = Unit {0}
Holds s a (f ∷ fs) = (field_at s a f.width ≡ f.value) × Holds s (a + f.width) fs

-- The bytes s with the fields put in, in a row, from bit a.
unfoldable pub put_all : List ℕ → ℕ → List Field → List ℕ
put_all s a [] = s
put_all s a (f ∷ fs) = put_all (put_at s a f.width f.value) (a + f.width) fs
