-- `records::precedes` meets its contract. Assumes nothing.
use Rattle.records.proofs.Place.{key_tests}
use Rattle.records.proofs.precedes.Goals as goal

pub returns : goal.returns
returns c = rw c.key_in.ensures (key_tests c.args.bytes.now c.args.key c.fits-bytes).0
