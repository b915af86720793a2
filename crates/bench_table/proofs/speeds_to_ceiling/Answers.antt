-- `bench_table::speeds_to_ceiling` meets its contract. Assumes nothing.
use Rattle.bench_table.specs.Rows.{speeds_to_ceiling}
use Rattle.bench_table.proofs.speeds_to_ceiling.Goals as goal

pub returns : goal.returns
unfolding speeds_to_ceiling
returns c = rw (c.every_speed-list.ensures, c.single.ensures, c.single-2.ensures)
