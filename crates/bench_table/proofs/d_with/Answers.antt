-- `bench_table::d_with` meets its contract. Assumes nothing.
use Rattle.std.proofs.Common.{arith}
use Rattle.std.proofs.Math.Seq.{length-take-le}
use Rattle.bench_table.specs.Rows.{times, D3}
use Rattle.bench_table.proofs.d_with.Goals as goal

pub returns : goal.returns
unfolding D3
returns c = rw (c.d_and.ensures, c.from.ensures, length-take-le c.args.count (times 64) (omega arith))
