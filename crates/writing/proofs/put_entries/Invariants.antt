-- `writing::put_entries` meets its contract: the codes so far stand in out. Assumes nothing.
use mathlib.Core.Path.{◌≡◌}
use mathlib.Core.List.{map}
use lib.ListN.{take}
use Rattle.field.specs.Fields.{bits, put_all}
use Rattle.plan.specs.Sheet.{entry_bits}
use Rattle.writing.proofs.put_entries.Given as goal

abbrev pub invariant-loop-i : goal.invariant-loop-i
invariant-loop-i l = l.out ≡ put_all l.initial.out l.place (map (bits entry_bits) (take l.i l.codes))
