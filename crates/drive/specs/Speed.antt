-- The call for a speed for C hosts: as the ordinary call, with one answer more. Assumes nothing.
use Rattle.std.specs.Prelude.{ℕ, ◌≤◌, ◌<◌, ◌≡◌, List, ◌++◌, length, drop}
use Rattle.numbers.specs.Numbers.{big_endian, number_at}
use Rattle.evaluate.specs.Speed.{SpeedAnswer, speed_answer, speed_store_after}
use Rattle.drive.specs.Call.{answer_bytes, encode_answer, room, lent_by, answers_by, TooShort, AnswersRead}

-- The bytes that the answers take: those of an ordinary call, then the speed, 8 bytes, most significant first.
abbrev pub speed_answer_bytes : ℕ
speed_answer_bytes = 48

unfoldable pub encode_speed_answer : SpeedAnswer → List ℕ
encode_speed_answer p = encode_answer p.answer ++ big_endian 8 p.speed

-- The number returned, the list buffer and the answer buffer afterwards.
abbrev pub speed_called : List ℕ → ℕ → ℕ → List ℕ → List ℕ → SpeedAnswer
speed_called sheet target allowance list buffer = speed_answer sheet target allowance (room speed_answer_bytes list buffer)

unfoldable pub speed_number : List ℕ → ℕ → ℕ → List ℕ → List ℕ → ℕ
speed_number sheet target allowance list buffer = (speed_called sheet target allowance list buffer).answer.number

unfoldable pub speed_list_after : List ℕ → ℕ → ℕ → List ℕ → List ℕ → List ℕ
speed_list_after sheet target allowance list buffer = lent_by speed_answer_bytes list buffer (speed_store_after sheet target allowance list)

unfoldable pub speed_answer_after : List ℕ → ℕ → ℕ → List ℕ → List ℕ → List ℕ
speed_answer_after sheet target allowance list buffer =
    answers_by speed_answer_bytes buffer (encode_speed_answer (speed_called sheet target allowance list buffer))

-- What that comes to, for every sheet, target, allowance, list buffer and answer buffer.
module _ (sheet : List ℕ) (target allowance : ℕ) (list buffer : List ℕ) where
  abbrev pub number : ℕ
  number = speed_number sheet target allowance list buffer

  abbrev pub list_buffer : List ℕ
  list_buffer = speed_list_after sheet target allowance list buffer

  abbrev pub answer_buffer : List ℕ
  answer_buffer = speed_answer_after sheet target allowance list buffer

  abbrev pub speed_answered : SpeedAnswer
  speed_answered = speed_answer sheet target allowance (length list)

  -- Where the answer buffer is long enough, the number and the list are the call's, and its other answers are read back.
  pub record LongEnough : Type 0 where
    pub number_is : number ≡ speed_answered.answer.number
    pub list_is : list_buffer ≡ speed_store_after sheet target allowance list
    pub answers : AnswersRead allowance speed_answered.answer answer_buffer
    pub speed_read : number_at answer_buffer answer_bytes 8 ≡ speed_answered.speed
    pub later_kept : drop speed_answer_bytes answer_buffer ≡ drop speed_answer_bytes buffer

  pub record SpeedCall : Type 0 where
    pub too_short : length buffer < speed_answer_bytes → TooShort sheet number list list_buffer buffer answer_buffer
    pub long_enough : speed_answer_bytes ≤ length buffer → LongEnough
