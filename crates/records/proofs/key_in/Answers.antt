-- `records::key_in` meets its contract. Assumes nothing.
use Rattle.std.proofs.Common.{◌∙◌, arith}
use Rattle.numbers.proofs.Numbers.{number_split}
use Rattle.records.specs.Records.{head_record}
use Rattle.records.proofs.key_in.Goals as goal

pub returns : goal.returns
unfolding head_record
returns c = c.read_number.ensures ∙ number_split c.args.bytes.now 0 2 2 (omega arith)
