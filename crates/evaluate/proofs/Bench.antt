-- The rows of the bench table hold, by computation on the definitions. Assumes nothing.
use mathlib.Core.Path.{refl}
use Rattle.field.specs.Bits.{bit, field_at}
use Rattle.block.specs.Rows.{row}
use Rattle.block.specs.Block.{cut_short, bad_zero_bits, component_of}
use Rattle.plan.specs.Rules.{rule9, rule10, rule11}
use Rattle.reading.specs.Reading.{start_of, plan_in, bad_layout, bad_zeros, read_of}
use Rattle.evaluate.specs.Answer.{answer}
use Rattle.evaluate.specs.Bench.{Bench}

pub bench : Bench
unfolding bit field_at row cut_short bad_zero_bits component_of rule9 rule10 rule11 start_of plan_in bad_layout bad_zeros read_of answer
bench =
    record { P1-list = refl; P1 = refl; P2-list = refl; P2 = refl; P3 = refl; P4-seven = refl; P4-eight = refl; P5 = refl; P6-list = refl; P6 = refl; P7-list = refl; P7 = refl; P8 = refl; P9-four = refl; P9-three = refl; P10 = refl; top_and_one_list = refl; top_and_one_asked = refl; above_top = refl; store_9216 = refl; store_9215 = refl }
