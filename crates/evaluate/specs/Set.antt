-- The call for a set of demands (document 02, request three): belief and plausibility at each of them. Assumes nothing.
use Rattle.std.specs.Prelude.{ℕ, ◌*◌, List, ◌++◌, length, drop}
use Rattle.theory.specs.declared.Focal.{Focal}
use Rattle.theory.specs.Structure.{Tree}
use Rattle.theory.specs.Evaluation.{Evaluation, completed, refused}
use Rattle.plan.specs.Tests.{Test}
use Rattle.queries.specs.Shares.{shares_bytes, encode_set, demand_tests}
use Rattle.evaluate.specs.SheetRun.{SheetRun, sheet_run_of}
use Rattle.evaluate.specs.Answer.{sheet_outcomes, call_tests, ending}
use Rattle.evaluate.specs.Store.{store_with}

-- Its tests: 1 to 12, as of any call; then 17 and 18, those of the demands and of the shares' buffer.
abbrev pub set_tests : List ℕ → List ℕ → ℕ → ℕ → List Test
set_tests sheet demands room bytes = call_tests sheet room ++ demand_tests (length demands) bytes

-- The shares' buffer afterwards. Refused: unchanged. Accepted: formula (7) over all choices at each demand, in the order asked, and the bytes
-- behind the last pair unchanged.
abbrev pub shares_by : Evaluation Tree → List ℕ → List Focal → List ℕ → List ℕ
shares_by (refused number) demands outcomes shares = shares
shares_by (completed stack pairs) demands outcomes shares = encode_set demands outcomes ++ drop (shares_bytes * length demands) shares

-- What is answered for a sheet, demands, an allowance, a store of `room` bytes and a shares' buffer of `bytes`: number, total, pairs and list
-- length, those of any call. Then the store and the shares' buffer afterwards.
unfoldable pub set_answer : List ℕ → List ℕ → ℕ → ℕ → ℕ → SheetRun
set_answer sheet demands allowance room bytes = sheet_run_of (ending (set_tests sheet demands room bytes) sheet allowance) sheet

unfoldable pub set_store_after : List ℕ → List ℕ → ℕ → List ℕ → ℕ → List ℕ
set_store_after sheet demands allowance store bytes = store_with (set_tests sheet demands (length store) bytes) sheet allowance store

unfoldable pub shares_after : List ℕ → List ℕ → ℕ → ℕ → List ℕ → List ℕ
shares_after sheet demands allowance room shares =
    shares_by (ending (set_tests sheet demands room (length shares)) sheet allowance) demands (sheet_outcomes sheet) shares
