-- `queries::put_set` meets its contract: the shares at each demand go behind those already written. Assumes nothing.
use Rattle.std.proofs.Common.{◌*◌, take}
use Rattle.numbers.proofs.Numbers.{Placed}
use Rattle.records.specs.Records.{records_of}
use Rattle.queries.specs.Shares.{shares_bytes, encode_set}
use Rattle.queries.proofs.put_set.Given as goal

abbrev pub invariant-loop-i : goal.invariant-loop-i
invariant-loop-i l = Placed l.initial.out 0 (shares_bytes * l.i) (encode_set (take l.i l.demands) (records_of l.list)) l.out
