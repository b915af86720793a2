-- `wire::decode_demands` meets its contract: the places that are not used stay 0. Assumes nothing.
use Rattle.std.proofs.Common.{◌∙◌, length}
use Rattle.theory.specs.Limits.{most_demands}
use Rattle.wire.specs.Demands.{demand_count, demand_at, decode_demands}
use Rattle.wire.proofs.Decoding.{filled_row, count_fits}
use Rattle.wire.proofs.decode_demands.Goals as goal

pub returns-clause-value : goal.returns-clause-value
unfolding decode_demands
returns-clause-value c =
    let s = c.args.s.now in
    let e = c.put_demands-count.ensures in
    let row_is = e.row_after ∙ filled_row (demand_at s) most_demands (demand_count (length s)) (count_fits (length s)).0 in
    λ i. record { values = row_is i; count = e.value i }
