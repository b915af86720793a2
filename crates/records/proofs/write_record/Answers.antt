-- `records::write_record` meets its contract. Assumes nothing.
use mathlib.Core.Path.{◌∙◌}
use Prim.Native.Nat.{◌*◌}
use native.Mathlib.Omega.{arith}
use Rattle.records.proofs.RecordLaws.{key_stored}
use Rattle.records.proofs.write_record.Goals as goal

pub returns : goal.returns
returns c =
    let a = c.args in
    c.write_number-2.ensures ∙ key_stored a.s.now a.key a.weight (12 * a.i) (omega arith) c.write_number.new.s c.write_number.ensures
