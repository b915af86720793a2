-- `drive::drive_speed` meets its contract: the speed stands behind the other answers. Assumes nothing.
use Rattle.std.proofs.Common.{◌≡◌, rules, refl, ◌∙◌, [], ◌∷◌, arith}
use Rattle.theory.specs.Sums.{for_each}
use Rattle.numbers.specs.Numbers.{big_endian}
use Rattle.numbers.proofs.Numbers.{placed_none, placed_next}
use Rattle.drive.specs.Call.{answer_bytes, encode_answer}
use Rattle.drive.specs.Speed.{speed_answer_bytes, encode_speed_answer, speed_answer_after}
use Rattle.drive.proofs.drive_speed.Goals.{After-write_number}
use Rattle.drive.proofs.drive_speed.Goals as goal

module _ (c : After-write_number) where
  written : c.write_number.new.s ≡ speed_answer_after c.args.sheet.now c.args.target c.args.allowance c.args.list.now c.args.answer.now
  unfolding encode_answer encode_speed_answer speed_answer_after
  written =
      let a = c.unwrap_or_default-s.result.answer in
      let numbers = a.run.total ∷ a.shares.belief ∷ a.shares.plausibility ∷ a.run.pairs ∷ a.run.intervals ∷ [] in
      let p0 = placed_none c.args.answer.now 0 (omega arith) in
      let p1 = placed_next 0 answer_bytes (for_each numbers (big_endian 8)) p0 refl (omega arith) (omega arith) (omega arith) (rw c.numbers_of.ensures at c.write_numbers.ensures) in
      let p2 = placed_next answer_bytes speed_answer_bytes (big_endian 8 c.unwrap_or_default-s.result.speed) p1 refl (omega arith) (omega arith) (omega arith) c.write_number.ensures in
      p2.is ∙ search rules

pub returns-in_err-answered-clause-answer_after : goal.returns-in_err-answered-clause-answer_after
returns-in_err-answered-clause-answer_after c = written (goal.at.returns-in_err-answered-clause-answer_after c).After-write_number

pub returns-clause-answer_after : goal.returns-clause-answer_after
returns-clause-answer_after c = written (goal.at.returns-clause-answer_after c).After-write_number
