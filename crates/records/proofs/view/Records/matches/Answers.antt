-- `records::Records::matches` meets its contract. Assumes nothing.
use Rattle.std.proofs.Common.{slice_index_or, [], length}
use borrow.Author.Tests.{lt-ltb}
use Rattle.records.proofs.RecordLaws.{record_is}
use Rattle.records.proofs.Place.{key_tests}
use Rattle.records.proofs.view.Records.matches.Goals as goal

pub returns-then-i-self : goal.returns-then-i-self
returns-then-i-self c =
    let a = c.args in
    let r = a.self.now in
    rw (c.key_in.ensures, lt-ltb a.i (length r.records.now) c.if-i-self.true, record_is r.records.now a.i [] c.if-i-self.true)
    (key_tests (slice_index_or r.records.now a.i []) a.key (r.bytes_fit a.i)).1
