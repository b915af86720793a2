-- `bench_table::every_speed` meets its contract. Assumes nothing.
use Rattle.std.proofs.Common.{◌+◌, ◌-◌, ◌*◌, rules}
use Rattle.theory.specs.Focal.{focal, no_focal}
use Rattle.theory.specs.Limits.{most_intervals}
use Rattle.bench_table.specs.Rows.{every_speed}
use Rattle.bench_table.proofs.Rows.{made_by}
use Rattle.bench_table.proofs.every_speed.Goals as goal

pub returns : goal.returns
unfolding every_speed
returns c = made_by (λ i. focal (most_intervals - 1 - i) (most_intervals - 1 - i) (c.args.step * i + 1)) no_focal c.from_fn.ensures.items (λ i y q e. search rules)
