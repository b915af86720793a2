-- `field::window` meets its contract: the bytes that hold the bits spell a number, and the bits behind the window are divided away. Assumes nothing.
use Prim.Native.Nat.{◌+◌, ◌-◌, ◌/◌}
use native.Mathlib.Omega.{arith}
use Rattle.numbers.specs.Numbers.{Bytes}
use Rattle.field.proofs.FieldLaws.{window_out, number_field}
use Rattle.field.proofs.window.Goals as goal

pub returns : goal.returns
returns c =
    let a = c.args in
    let bytes : Bytes a.src.now = λ i. (c.type_inv.src i).fits in
    rw (
      c.read_number-acc.ensures,
      number_field a.src.now (a.at / 8) ((a.at + a.width + 7) / 8 - a.at / 8) bytes (omega arith),
      c.byte_pow2.ensures,
    )
    (window_out a.src.now a.at a.width)
