-- `records::Records::find` meets its contract. Assumes nothing.
use Rattle.std.proofs.Common.{◌+◌, ◌-◌, arith}
use Rattle.records.specs.Records.{keyed}
use Rattle.records.proofs.Place.{tested_above, tested_below, place_count}
use Rattle.records.proofs.view.Records.find.Goals as goal

pub returns-then-next-n : goal.returns-then-next-n
returns-then-next-n c =
    let a = c.args in
    let above = tested_above a.self.now a.key a.hint c.requires (omega arith) c.precedes.ensures c.if-precedes.true in
    omega (arith, above, place_count (keyed a.key 0) a.self.now)

pub bisect-requires-then-precedes-2-clause-between : goal.bisect-requires-then-precedes-2-clause-between
bisect-requires-then-precedes-2-clause-between c =
    let a = c.args in
    let above = tested_above a.self.now a.key (a.hint + 1) c.requires (omega arith) c.precedes-then-precedes.ensures c.if-precedes-2.true in
    (omega (arith, above), place_count (keyed a.key 0) a.self.now, omega arith)

pub bisect-requires-else-precedes-3-clause-between : goal.bisect-requires-else-precedes-3-clause-between
bisect-requires-else-precedes-3-clause-between c =
    let a = c.args in
    (omega arith, tested_below a.self.now a.key (a.hint - 1) c.requires (omega arith) c.precedes-else-precedes.ensures c.if-precedes-3.false, omega arith)

pub returns-else-precedes-2 : goal.returns-else-precedes-2
returns-else-precedes-2 c =
    let a = c.args in
    omega (
      arith,
      tested_above a.self.now a.key a.hint c.requires (omega arith) c.precedes.ensures c.if-precedes.true,
      tested_below a.self.now a.key (a.hint + 1) c.requires (omega arith) c.precedes-then-precedes.ensures c.if-precedes-2.false,
    )

pub returns-then-precedes-3 : goal.returns-then-precedes-3
returns-then-precedes-3 c =
    let a = c.args in
    omega (
      arith,
      tested_below a.self.now a.key a.hint c.requires (omega arith) c.precedes.ensures c.if-precedes.false,
      tested_above a.self.now a.key (a.hint - 1) c.requires (omega arith) c.precedes-else-precedes.ensures c.if-precedes-3.true,
    )
