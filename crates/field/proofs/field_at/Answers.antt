-- `field::field_at` meets its contract: the field is the lowest bits of its window. Assumes nothing.
use mathlib.Core.Path.{◌≡◌}
use Prim.Native.Nat.{ℕ, ◌+◌, ◌%◌, ◌^◌}
use native.Mathlib.Omega.{arith}
use mathlib.Core.List.{List}
use Rattle.field.specs.Bits.{field_at, window_at}
use Rattle.field.proofs.FieldLaws.{field_below, window_last}
use Rattle.field.proofs.field_at.Goals as goal

-- The lowest w bits of the window of w bits.
lowest : (s : List ℕ) (a w : ℕ) → window_at s a w % 2 ^ w ≡ field_at s a w
lowest s a w =
    let from : a + 0 ≡ a = omega arith in
    let all : 0 + w ≡ w = omega arith in
    rw (from, all) at (window_last s a 0 w)

pub overflow_cast-result : goal.overflow_cast-result
overflow_cast-result c =
    let a = c.args in
    record { fits = rw (c.lowest_bits.ensures, c.window.ensures, lowest a.src.now a.at a.width) (field_below a.src.now a.at a.width 32 c.requires.narrow) }

pub returns : goal.returns
returns c =
    let a = c.args in
    rw (c.lowest_bits.ensures, c.window.ensures) (lowest a.src.now a.at a.width)
