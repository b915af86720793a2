-- `bench_table::component` meets its contract. The invariant: the first intervals have their places. Assumes nothing.
use Rattle.std.proofs.Common.{◌≡◌, map, length, take}
use Rattle.bench_table.specs.Rows.{places}
use Rattle.bench_table.proofs.component.Given as goal

abbrev pub invariant-loop-i : goal.invariant-loop-i
invariant-loop-i l = record {
  lows : l.c.lows ≡ places (map (λ f. f.0) (take l.i l.intervals));
  highs : l.c.highs ≡ places (map (λ f. f.1) (take l.i l.intervals));
  weights : l.c.weights ≡ places (map (λ f. f.2) (take l.i l.intervals));
  count : l.c.count ≡ length l.intervals;
  total : l.c.total ≡ l.total;
}
