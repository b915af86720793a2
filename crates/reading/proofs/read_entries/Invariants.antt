-- `reading::read_entries` meets its contract: the codes so far stand, zeros behind them, and the next is taken behind them. Assumes nothing.
use Rattle.std.proofs.Common.{◌≡◌, ◌+◌, ◌*◌, ◌++◌, drop, replicate}
use Rattle.theory.specs.Limits.{most_entries}
use Rattle.reading.specs.Reading.{entries_at}
use Rattle.reading.proofs.read_entries.Given as goal

abbrev pub invariant-loop-entry : goal.invariant-loop-entry
invariant-loop-entry l =
    record {
      sheet_is : l.codes.src.now ≡ l.sheet;
      place_is : l.codes.at ≡ l.place + 4 * l.entry-index;
      read : l.entry-items ++ drop l.m (replicate most_entries 0) ≡ entries_at l.sheet l.place l.entry-index;
    }
