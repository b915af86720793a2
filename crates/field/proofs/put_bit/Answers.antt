-- `field::put_bit` meets its contract: the byte with the bit set is a byte. Assumes nothing.
use Rattle.std.proofs.Common.{◌-◌, ◌%◌, arith}
use Rattle.field.specs.Bits.{set_bit}
use Rattle.field.proofs.Put.{put_lt}
use Rattle.field.proofs.put_bit.Goals as goal

pub overflow_cast-dst : goal.overflow_cast-dst
overflow_cast-dst c =
    let byte = put_lt c.from-x.result (7 - c.args.j % 8) c.args.b (omega arith) (omega arith) (omega arith) in
    record { fits = rw (c.with_bit.ensures, c.byte_pow2-p.ensures) byte }

pub returns : goal.returns
unfolding set_bit
returns c = rw (c.with_bit.ensures, c.from-x.ensures, c.byte_pow2-p.ensures)
