-- `joins::put_listed` meets its contract. The invariant: out holds the list of the intervals from place i on, and `rest` is what their weights leave of T.
use Rattle.std.proofs.Common.{◌≡◌, List, ◌*◌, ◌-◌, ◌≤◌}
use Rattle.theory.specs.Focal.{weights}
use Rattle.theory.specs.declared.Focal.{Focal}
use Rattle.joins.proofs.Holding.{Held}
use Rattle.joins.proofs.Listed.{collected}
use Rattle.joins.proofs.put_listed.Given as goal

abbrev pub invariant-loop-i : goal.invariant-loop-i
invariant-loop-i l =
    let s : List Focal = collected l.c l.i in
    record {
      held : Held l.initial.out.bytes.now l.out.bytes.now l.out.count s;
      sum : weights s ≤ 65535 * (l.c.count - l.i);
      left : l.rest ≡ l.initial.rest - weights s;
      same_reference : l.out.bytes.ghost_name ≡ l.initial.out.bytes.ghost_name;
    }
