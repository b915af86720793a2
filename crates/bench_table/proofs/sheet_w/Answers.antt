-- `bench_table::sheet_w` meets its contract. Assumes nothing.
use Rattle.bench_table.specs.Rows.{W0, W1}
use Rattle.bench_table.proofs.sheet_w.Goals as goal

pub returns : goal.returns
unfolding W0 W1
returns c = rw (c.sheet.ensures, c.component-first.ensures, c.component-second.ensures)
