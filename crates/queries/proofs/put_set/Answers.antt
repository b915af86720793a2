-- `queries::put_set` meets its contract: the shares at each demand go behind those already written. Assumes nothing.
use Rattle.std.proofs.Common.{◌≡◌, refl, ◌+◌, ◌*◌, ◌<◌, length, get_or, arith}
use Rattle.numbers.proofs.Numbers.{placed_next}
use Rattle.theory.proofs.Sums.{for_each_next}
use Rattle.records.specs.Records.{records_of}
use Rattle.queries.specs.Shares.{shares_of, shares_bytes, encode_shares}
use Rattle.queries.proofs.put_set.Goals as goal

pub loop-i-preserved : goal.loop-i-preserved
loop-i-preserved c =
    let a = c.args in
    let i = c.loop-i.i in
    let ds = a.demands.now in
    let list = records_of a.list in
    let inside : i < length ds = omega arith in
    let shares : c.shares_at.result ≡ shares_of (get_or ds i 0) list = rw c.from.ensures at c.shares_at.ensures in
    let put = rw shares at c.put_shares.ensures in
    let p = placed_next (shares_bytes * i) (shares_bytes * (i + 1)) (encode_shares (shares_of (get_or ds i 0) list)) c.loop-i.invariant refl (omega arith) (omega arith) (omega arith) put in
    rw (for_each_next (λ d. encode_shares (shares_of d list)) ds i 0) p
