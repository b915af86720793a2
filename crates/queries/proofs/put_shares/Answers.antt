-- `queries::put_shares` meets its contract. Assumes nothing.
use Prim.Native.Nat.{◌+◌, ◌*◌}
use mathlib.Core.Path.{◌≡◌}
use mathlib.Core.List.{append-nil}
use native.Mathlib.Omega.{arith}
use Rattle.queries.specs.Shares.{shares_bytes, encode_shares}
use Rattle.queries.proofs.put_shares.Goals as goal

pub returns : goal.returns
unfolding encode_shares
returns c =
    let end : shares_bytes * (c.args.i + 1) ≡ shares_bytes * c.args.i + 16 = omega arith in
    rw end (rw append-nil at c.write_numbers.ensures)
