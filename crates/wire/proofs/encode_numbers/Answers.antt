-- `wire::encode_numbers` meets its contract: each number is the same in 64 bits. Assumes nothing.
use mathlib.Core.Path.{◌≡◌}
use Prim.Native.Nat.{◌+◌, ◌*◌}
use native.Mathlib.Omega.{arith}
use lib.ListN.{length}
use Rattle.std.proofs.Common.{rules}
use Rattle.std.proofs.lemmas.List.{ext_get_or}
use Rattle.wire.proofs.encode_numbers.Goals as goal

pub returns : goal.returns
returns g c =
    let a = c.args in
    let all = c.map.ensures.items in
    let same : c.map.result ≡ a.ns = ext_get_or 0 c.map.result a.ns (omega (arith, all.long)) (λ i h. let (p, q, call) = all.at i 0 0 (omega (arith, all.long)) in search rules) in
    let e : 2 * (a.i + g.row.N) ≡ 2 * a.i + 2 * length a.ns = omega arith in
    rw (e, ← same) c.write_numbers.ensures
