-- `bench_table::numbers_in` meets its contract. Assumes nothing.
use Rattle.std.proofs.Common.{◌*◌, rules}
use Rattle.numbers.specs.Numbers.{number_at}
use Rattle.bench_table.specs.Rows.{numbers_of}
use Rattle.bench_table.proofs.Rows.{made_by}
use Rattle.bench_table.proofs.numbers_in.Goals as goal

pub returns : goal.returns
unfolding numbers_of
returns c = made_by (λ i. number_at c.args.shares.now (8 * i) 8) 0 c.from_fn.ensures.items (λ i y q e. search rules)
