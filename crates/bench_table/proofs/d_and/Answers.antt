-- `bench_table::d_and` meets its contract. Assumes nothing.
use Rattle.bench_table.specs.Rows.{D1, D2}
use Rattle.bench_table.proofs.d_and.Goals as goal

pub returns : goal.returns
unfolding D1 D2
returns c = rw (c.sheet.ensures, c.single_speeds-d1.ensures, c.single_speeds-d2.ensures, c.single_speeds-d3.ensures)
