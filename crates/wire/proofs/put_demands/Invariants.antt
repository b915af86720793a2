-- `wire::put_demands` meets its contract: the first i places hold the demands. Assumes nothing.
use mathlib.Core.Path.{◌≡◌}
use mathlib.Core.List.{map}
use lib.ListN.{take}
use Rattle.theory.specs.Sums.{count_from}
use Rattle.wire.specs.Demands.{demand_at}
use Rattle.wire.proofs.put_demands.Given as goal

abbrev pub invariant-loop-i : goal.invariant-loop-i
invariant-loop-i l = take l.i l.demand-items ≡ map (demand_at l.s) (count_from 0 l.i)
