-- `records::focal_in` meets its contract. Assumes nothing.
use Rattle.std.proofs.Common.{◌∙◌, ◌+◌, ◌*◌, arith}
use Rattle.numbers.proofs.Numbers.{number_lt}
use Rattle.records.specs.Records.{head_record}
use Rattle.records.proofs.RecordLaws.{weight_is}
use Rattle.records.proofs.focal_in.Goals as goal

pub overflow_cast-result : goal.overflow_cast-result
overflow_cast-result c = omega (arith, number_lt c.args.bytes.now 0 2 c.fits-bytes)

pub overflow_cast-result-2 : goal.overflow_cast-result-2
overflow_cast-result-2 c = omega (arith, number_lt c.args.bytes.now 2 2 c.fits-bytes)

pub overflow_mul-result : goal.overflow_mul-result
overflow_mul-result c = omega (arith, number_lt c.args.bytes.now 4 4 c.fits-bytes)

pub overflow_add-result : goal.overflow_add-result
overflow_add-result c = let r = c.args.bytes.now in omega (arith, number_lt r 4 4 c.fits-bytes, number_lt r 8 4 c.fits-bytes)

pub returns : goal.returns
unfolding head_record
returns c =
    let weight = weight_is c.args.bytes.now (omega arith) in
    λ t. record {
      low = c.read_number.ensures t;
      high = c.read_number-2.ensures t;
      weight = ((λ k. c.read_number-weight_high.ensures k * 4294967296 + c.read_number-weight_low.ensures k) ∙ weight) t;
    }
