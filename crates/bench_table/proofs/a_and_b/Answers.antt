-- `bench_table::a_and_b` meets its contract. Assumes nothing.
use Rattle.bench_table.specs.Rows.{component_a, component_b}
use Rattle.bench_table.proofs.a_and_b.Goals as goal

pub returns : goal.returns
unfolding component_a component_b
returns c = rw (c.sheet.ensures, c.component-a.ensures, c.component-b.ensures)
