-- `bench_table::call::Call::answer` meets its contract. Assumes nothing.
use Rattle.std.proofs.Common.{ℕ, List, ◌++◌, drop, ap, ◌∙◌}
use Rattle.bench_table.specs.Rows.{numbers_of, untouched, Answered}
use Rattle.bench_table.proofs.call.Call.answer.Goals as goal

pub returns-in-Bounds : goal.returns-in-Bounds
unfolding Answered
returns-in-Bounds c = rw c.in-Bounds.is (c.bounds.ensures.value, c.bounds.ensures.store_after)

pub returns-in-Speed : goal.returns-in-Speed
unfolding Answered
returns-in-Speed c = rw c.in-Speed.is (c.speed.ensures.value, c.speed.ensures.store_after)

pub returns-in-Set : goal.returns-in-Set
unfolding Answered untouched
returns-in-Set c =
    let e = c.set-run.ensures in
    rw c.in-Set.is
    (e.value, e.store_after, c.numbers_in.ensures ∙ ap (λ (s : List ℕ). numbers_of (s ++ drop c.args.self.now.shares untouched)) e.shares_after)
