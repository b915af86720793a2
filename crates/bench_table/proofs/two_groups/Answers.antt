-- `bench_table::two_groups` meets its contract. Assumes nothing.
use Rattle.bench_table.specs.Rows.{D1, D2, D3}
use Rattle.bench_table.proofs.two_groups.Goals as goal

pub returns : goal.returns
unfolding D1 D2 D3
returns c = rw (c.sheet_with.ensures, c.single_speeds-d1.ensures, c.single_speeds-d2.ensures, c.single_speeds-d3.ensures)
