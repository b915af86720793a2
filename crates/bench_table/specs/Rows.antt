-- The sheets of the rows and their lists, and what a call on a sheet answers. Assumes nothing.
use Rattle.std.specs.Prelude.{◌≡◌, ℕ, ◌+◌, ◌-◌, ◌*◌, Ok, Err, List, [], ◌∷◌, ◌++◌, map, length, take, drop, replicate, slice_set}
use Rattle.std.specs.List.{range_with_len}
use Rattle.theory.specs.declared.Component.{Component}
use Rattle.theory.specs.declared.Focal.{Focal}
use Rattle.theory.specs.declared.Join.{Join}
use Rattle.theory.specs.declared.Entry.TheVariants.{Join as join}
use Rattle.theory.specs.declared.Refusal.{Refusal}
use Rattle.theory.specs.Codes.{code_of}
use Rattle.theory.specs.Focal.{focal}
use Rattle.theory.specs.Limits.{most_held, most_intervals}
use Rattle.numbers.specs.Numbers.{number_at}
use Rattle.plan.specs.declared.Plan.{Plan}
use Rattle.plan.specs.Plan.{zero_plan}
use Rattle.writing.specs.Writing.{written_of, bytes_after}
use Rattle.evaluate.specs.declared.Accepted.{Accepted}
use Rattle.evaluate.specs.Answer.{answered_as, answer}
use Rattle.evaluate.specs.Store.{store_after}
use Rattle.evaluate.specs.SheetRun.{run_as}
use Rattle.evaluate.specs.Speed.{speed_as, speed_answer, speed_store_after}
use Rattle.evaluate.specs.Set.{set_answer, set_store_after, shares_after}
use Rattle.bench_table.specs.declared.TheConstants.{LONGEST, SHARES_HELD, SHARES_ROOM, ONES}
use Rattle.bench_table.specs.declared.call.Sheet.{Sheet}
use Rattle.bench_table.specs.declared.call.Asked.{Asked}
use Rattle.bench_table.specs.declared.call.Asked.TheVariants.{Bounds, Speed, Set}
use Rattle.bench_table.specs.declared.call.Call.{Call}
use Rattle.bench_table.specs.declared.Answer.{Answer}
use Rattle.bench_table.specs.declared.Answer.TheVariants.{Bounds as bounds, Speed as speed, Set as set}

-- Eight places, the first of which hold numbers, and the others zero.
abbrev pub places : List ℕ → List ℕ
places xs = xs ++ drop (length xs) (replicate most_held 0)

-- A component: low, high and weight of each interval, and T.
unfoldable pub component_of : ℕ → List (ℕ × ℕ × ℕ) → Component
component_of total intervals =
    record {
      lows = places (map (λ f. f.0) intervals);
      highs = places (map (λ f. f.1) intervals);
      weights = places (map (λ f. f.2) intervals);
      count = length intervals;
      total = total;
    }

-- A component of single speeds, with weight 1 each.
unfoldable pub single_speeds : ℕ → List ℕ → Component
single_speeds total speeds =
    record { lows = places speeds; highs = places speeds; weights = replicate most_held 1; count = length speeds; total = total }

-- "A: T 4, [0,0] weight 1, [2,3] weight 3. B: T 3, [1,1] weight 2, [1,4] weight 1."
unfoldable pub component_a : Component
component_a = component_of 4 ((0, 0, 1) ∷ (2, 3, 3) ∷ [])

unfoldable pub component_b : Component
component_b = component_of 3 ((1, 1, 2) ∷ (1, 4, 1) ∷ [])

-- W: "[0,4] 20, [3,8] 67, [7,10] 13, in series with [0,6] 67, [8,10] 33".
unfoldable pub W0 : Component
W0 = component_of 100 ((0, 4, 20) ∷ (3, 8, 67) ∷ (7, 10, 13) ∷ [])

unfoldable pub W1 : Component
W1 = component_of 100 ((0, 6, 67) ∷ (8, 10, 33) ∷ [])

-- "j, 8 times j, 64 times j, j from 0 to 7 (in D3 only the first so many)".
abbrev pub times : ℕ → List ℕ
times step = map (λ j. step * j) (range_with_len 0 8)

unfoldable pub D1 : Component
D1 = single_speeds 8 (times 1)

unfoldable pub D2 : Component
D2 = single_speeds 8 (times 8)

unfoldable pub D3 : ℕ → Component
D3 count = single_speeds count (take count (times 64))

-- The code of a join in a structure.
abbrev pub join_code : Join → ℕ
join_code op = code_of (join op)

-- The plan of components with a structure.
unfoldable pub plan_of : List Component → List ℕ → Plan
plan_of cs entries = record { components = cs ++ drop (length cs) zero_plan.components; count = length cs; entries = entries }

-- Each component joined to those before it: 0, 0 1 join, 0 1 join 2 join and so on.
abbrev pub chained : ℕ → List ℕ
chained code = 0 ∷ 1 ∷ code ∷ 2 ∷ code ∷ 3 ∷ code ∷ 4 ∷ code ∷ 5 ∷ code ∷ []

abbrev pub chain : List Component → Join → Plan
chain cs op = plan_of cs (chained (join_code op))

-- D1, D2 and D3 with 4, twice.
abbrev pub two_groups : List Component
two_groups = D1 ∷ D2 ∷ D3 4 ∷ D1 ∷ D2 ∷ D3 4 ∷ []

-- The sheet of a plan.
unfoldable pub sheet_of : Plan → List ℕ
sheet_of p = take (written_of p LONGEST).length (bytes_after p (replicate LONGEST 0))

-- The bytes of a sheet.
abbrev pub bytes_of : Sheet → List ℕ
bytes_of s = take s.length s.bytes

-- Every speed from 255 down; the weights begin at 1 and rise by `step`.
unfoldable pub every_speed : ℕ → List Focal
every_speed step = map (λ i. focal (most_intervals - 1 - i) (most_intervals - 1 - i) (step * i + 1)) (range_with_len 0 most_intervals)

-- Every speed from 255 down with weight 1, but 4,095 with weight 127 and 4,094 in places 62 and 63.
unfoldable pub speeds_to_ceiling : List Focal
speeds_to_ceiling = slice_set (slice_set (every_speed 0) 62 (focal 4095 4095 127)) 63 (focal 4094 4094 1)

-- A call asks this of a sheet, with this allowance and so many bytes of store and for shares.
pub record Asks (call : Call) (sheet : List ℕ) (asked : Asked) (allowance store shares : ℕ) : Type 0 where
  pub sheet_is : call.sheet.now ≡ sheet
  pub asked_is : call.asked ≡ asked
  pub allowance_is : call.allowance ≡ allowance
  pub store_is : call.store ≡ store
  pub shares_is : call.shares ≡ shares

-- The numbers in a shares' buffer.
unfoldable pub numbers_of : List ℕ → List ℕ
numbers_of shares = map (λ i. number_at shares (8 * i) 8) (range_with_len 0 SHARES_HELD)

-- A shares' buffer before a call.
unfoldable pub untouched : List ℕ
untouched = replicate SHARES_ROOM 1

-- What a call answers on a store, and the store afterwards: what the one of evaluate's calls that it makes does; and each number in the
-- shares' buffer, of which it was lent the first bytes.
unfoldable pub Answered : Asked → Call → List ℕ → Answer → List ℕ → Type 0
Answered (Bounds demand) call store (bounds got) after =
    (answered_as got ≡ answer call.sheet.now demand call.allowance (length store)) × (after ≡ store_after call.sheet.now call.allowance store)
Answered (Speed target) call store (speed got) after =
    (speed_as got ≡ speed_answer call.sheet.now target call.allowance (length store))
    × (after ≡ speed_store_after call.sheet.now target call.allowance store)
Answered (Set demands) call store (set got numbers) after =
    let lent : List ℕ = take call.shares untouched in
    (run_as got ≡ set_answer call.sheet.now demands.now call.allowance (length store) (length lent))
    × (after ≡ set_store_after call.sheet.now demands.now call.allowance store (length lent))
    × (numbers ≡ numbers_of (shares_after call.sheet.now demands.now call.allowance (length store) lent ++ drop call.shares untouched))
Answered _ call store got after = ⊥

-- What a refused call answers: a shares' buffer is left as it was.
abbrev pub refused_as : Asked → Refusal → Answer
refused_as (Bounds demand) refusal = bounds (Err refusal)
refused_as (Speed target) refusal = speed (Err refusal)
refused_as (Set demands) refusal = set (Err refusal) (replicate SHARES_HELD ONES)

-- The length of the list in the store after an answer.
abbrev pub intervals_of : Answer → ℕ
intervals_of (bounds (Ok a)) = a.run.intervals
intervals_of (speed (Ok a)) = a.answer.run.intervals
intervals_of (set (Ok r) numbers) = r.intervals
intervals_of _ = 0

-- What an accepted ordinary call answers.
abbrev pub accepted_of : ℕ → ℕ → ℕ → ℕ → ℕ → Accepted
accepted_of total belief plausibility pairs intervals =
    record {
      run = record { total = total; pairs = pairs; intervals = intervals };
      shares = record { belief = belief; plausibility = plausibility };
    }
