-- The call for a set of demands for C hosts: the demands as bytes, the shares into a buffer of their own. Assumes nothing.
use Rattle.std.specs.Prelude.{ℕ, ◌^◌, ◌≤◌, ◌<◌, ◌≡◌, List, ◌++◌, length, drop}
use Rattle.numbers.specs.Numbers.{big_endian, number_at}
use Rattle.evaluate.specs.SheetRun.{SheetRun}
use Rattle.evaluate.specs.Set.{set_answer, set_store_after, shares_after}
use Rattle.wire.specs.Demands.{demands_in}
use Rattle.drive.specs.Call.{room, lent_by, answers_by, TooShort}

-- The bytes that the answers take: total, pair count and list length, 8 bytes each, most significant first.
abbrev pub set_answer_bytes : ℕ
set_answer_bytes = 24

unfoldable pub encode_set_answer : SheetRun → List ℕ
encode_set_answer r = big_endian 8 r.total ++ (big_endian 8 r.pairs ++ big_endian 8 r.intervals)

-- The number returned; the list buffer, the shares' buffer and the answer buffer afterwards.
abbrev pub set_called : List ℕ → List ℕ → ℕ → List ℕ → List ℕ → List ℕ → SheetRun
set_called sheet demands allowance list shares buffer =
    set_answer sheet (demands_in demands) allowance (room set_answer_bytes list buffer) (room set_answer_bytes shares buffer)

unfoldable pub set_number : List ℕ → List ℕ → ℕ → List ℕ → List ℕ → List ℕ → ℕ
set_number sheet demands allowance list shares buffer = (set_called sheet demands allowance list shares buffer).number

unfoldable pub set_list_after : List ℕ → List ℕ → ℕ → List ℕ → List ℕ → List ℕ → List ℕ
set_list_after sheet demands allowance list shares buffer =
    lent_by set_answer_bytes list buffer (set_store_after sheet (demands_in demands) allowance list (length shares))

unfoldable pub set_shares_after : List ℕ → List ℕ → ℕ → List ℕ → List ℕ → List ℕ → List ℕ
set_shares_after sheet demands allowance list shares buffer =
    lent_by set_answer_bytes shares buffer (shares_after sheet (demands_in demands) allowance (length list) shares)

unfoldable pub set_answer_after : List ℕ → List ℕ → ℕ → List ℕ → List ℕ → List ℕ → List ℕ
set_answer_after sheet demands allowance list shares buffer =
    answers_by set_answer_bytes buffer (encode_set_answer (set_called sheet demands allowance list shares buffer))

-- What that comes to, for every sheet, demands, allowance and buffers.
module _ (sheet demands : List ℕ) (allowance : ℕ) (list shares buffer : List ℕ) where
  abbrev pub number : ℕ
  number = set_number sheet demands allowance list shares buffer

  abbrev pub list_buffer : List ℕ
  list_buffer = set_list_after sheet demands allowance list shares buffer

  abbrev pub shares_buffer : List ℕ
  shares_buffer = set_shares_after sheet demands allowance list shares buffer

  abbrev pub answer_buffer : List ℕ
  answer_buffer = set_answer_after sheet demands allowance list shares buffer

  abbrev pub set_answered : SheetRun
  set_answered = set_answer sheet (demands_in demands) allowance (length list) (length shares)

  -- Where the answer buffer is long enough, the number, the list and the shares are the call's, and its other answers are read back. (An
  -- allowance is a 32-bit number.)
  pub record LongEnough : Type 0 where
    pub number_is : number ≡ set_answered.number
    pub list_is : list_buffer ≡ set_store_after sheet (demands_in demands) allowance list (length shares)
    pub shares_are : shares_buffer ≡ shares_after sheet (demands_in demands) allowance (length list) shares
    pub total_read : number_at answer_buffer 0 8 ≡ set_answered.total
    pub pairs_read : allowance < 2 ^ 64 → number_at answer_buffer 8 8 ≡ set_answered.pairs
    pub intervals_read : number_at answer_buffer 16 8 ≡ set_answered.intervals
    pub later_kept : drop set_answer_bytes answer_buffer ≡ drop set_answer_bytes buffer

  pub record SetCall : Type 0 where
    pub too_short : length buffer < set_answer_bytes → TooShort sheet number list list_buffer buffer answer_buffer × (shares_buffer ≡ shares)
    pub long_enough : set_answer_bytes ≤ length buffer → LongEnough
