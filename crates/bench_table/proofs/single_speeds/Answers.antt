-- `bench_table::single_speeds` meets its contract. Assumes nothing.
use Rattle.bench_table.specs.Rows.{single_speeds}
use Rattle.bench_table.proofs.single_speeds.Goals as goal

pub returns : goal.returns
unfolding single_speeds
returns c = rw c.copy_from_slice.ensures.after
