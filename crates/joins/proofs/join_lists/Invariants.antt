-- `joins::join_lists` meets its contract. The invariants: what is left of the pairs, filled into the list so far, gives the list that is
-- wanted. Assumes nothing.
use Rattle.std.proofs.Common.{◌≡◌, List, [], ◌++◌, ◌+◌, map, drop}
use Rattle.theory.specs.declared.Focal.{Focal}
use Rattle.theory.specs.Joins.{joined_focal, pairs}
use Rattle.records.specs.Records.{records_of}
use Rattle.joins.specs.Filling.{fill}
use Rattle.joins.proofs.Filling.{Filling}
use Rattle.joins.proofs.join_lists.Given as goal

abbrev pub invariant-loop-s : goal.invariant-loop-s
invariant-loop-s l =
    let left : List Focal = map (joined_focal l.op l.f) (drop l.s-index (records_of l.b)) ++ pairs l.op (drop (l.r-index + 1) (records_of l.a)) (records_of l.b) in
    record {
      filling : Filling l.fn.out l.list.bytes.now l.list.count left (fill [] (pairs l.op (records_of l.a) (records_of l.b)));
      same_reference : l.list.bytes.ghost_name ≡ l.initial.list.bytes.ghost_name;
    }

abbrev pub invariant-loop-r : goal.invariant-loop-r
invariant-loop-r l = record {
  filling :
      Filling l.fn.out l.list.bytes.now l.list.count (pairs l.op (drop l.r-index (records_of l.a)) (records_of l.b))
      (fill [] (pairs l.op (records_of l.a) (records_of l.b)));
  same_reference : l.list.bytes.ghost_name ≡ l.initial.list.bytes.ghost_name;
}
