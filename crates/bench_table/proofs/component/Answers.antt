-- `bench_table::component` meets its contract: one interval more at each turn. Assumes nothing.
use Rattle.std.proofs.Common.{take_all}
use Rattle.bench_table.specs.Rows.{component_of}
use Rattle.bench_table.proofs.Rows.{placed}
use Rattle.bench_table.proofs.component.Goals as goal

pub loop-i-preserved : goal.loop-i-preserved
loop-i-preserved c =
    let xs = c.args.intervals.now in
    let i = c.loop-i.i in
    let k = c.loop-i.invariant in record {
      lows = placed (λ f. f.0) xs i c.loop-i-test.true c.requires k.lows;
      highs = placed (λ f. f.1) xs i c.loop-i-test.true c.requires k.highs;
      weights = placed (λ f. f.2) xs i c.loop-i-test.true c.requires k.weights;
      count = k.count;
      total = k.total;
    }

pub returns : goal.returns
unfolding component_of
returns c =
    let k = c.loop-i.invariant in
    let all = take_all c.loop-i.i c.args.intervals.now c.loop-i-test.false in
    λ t. record { lows = (rw all at k.lows) t; highs = (rw all at k.highs) t; weights = (rw all at k.weights) t; count = k.count t; total = k.total t }
