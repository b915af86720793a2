-- What the reader reads fits numbers of 16 bits. Assumes nothing.
use Prim.Native.Nat.{ℕ, zero, suc, ◌+◌, ◌*◌}
use mathlib.Core.Path.{refl}
use mathlib.Core.List.{List}
use lib.Dec.{lit≤}
use Rattle.theory.specs.Limits.{most_held, most_components, most_entries, entry_count}
use Rattle.theory.specs.Sums.{Every, more}
use Rattle.theory.proofs.Every.{every_replicate, every_append}
use Rattle.field.specs.Bits.{field_at}
use Rattle.field.proofs.FieldLaws.{field_below}
use Rattle.block.specs.Rows.{row}
use Rattle.block.specs.Block.{count_bits, zero_bits, total_bits, speed_bits, weight_bits, place_of, count_in, interval_in, component_of, component_in, zero_component}
use Rattle.block.proofs.Rows.{length-row, row_every}
use Rattle.plan.specs.Sheet.{edition_bits, component_count_bits, entry_bits}
use Rattle.plan.specs.Plan.{zero_plan}
use Rattle.plan.specs.Tests.{first_broken}
use Rattle.reading.specs.Reading.{sheet_tests, read_of, reading, plan_in, component_count, block_at, structure_place}
use Rattle.wire.proofs.RoundTrip.{Word, ComponentFits, PlanFits}

block_fits : (s : List ℕ) → ComponentFits (component_in s)
unfolding component_of
block_fits s =
    let row_fits : (f : ℕ → ℕ) → ((i : ℕ) → Word (f i)) → Every Word (row 0 most_held f (count_in s)) = λ f h. row_every 0 most_held f (count_in s) (lit≤ tt) h in
    record {
      lows = length-row 0 most_held (λ i. (interval_in s i).low) (count_in s);
      highs = length-row 0 most_held (λ i. (interval_in s i).high) (count_in s);
      weights = length-row 0 most_held (λ i. (interval_in s i).weight) (count_in s);
      short =
          more (field_below s 0 count_bits 16 (lit≤ tt)) (more (field_below s (count_bits + zero_bits) total_bits 16 (lit≤ tt))
          (every_append (row_fits (λ i. (interval_in s i).low) (λ i. field_below s (place_of i) speed_bits 16 (lit≤ tt)))
          (every_append (row_fits (λ i. (interval_in s i).high) (λ i. field_below s (place_of i + speed_bits) speed_bits 16 (lit≤ tt)))
          (row_fits (λ i. (interval_in s i).weight) (λ i. field_below s (place_of i + speed_bits + speed_bits) weight_bits 16 (lit≤ tt))))));
    }

zero_component_fits : ComponentFits zero_component
zero_component_fits = record { lows = refl; highs = refl; weights = refl; short = every_replicate 0 26 (lit≤ tt) }

zero_plan_fits : PlanFits zero_plan
zero_plan_fits =
    record {
      components = refl;
      each = every_replicate zero_component most_components zero_component_fits;
      entries = refl;
      short = (lit≤ tt, every_replicate 0 most_entries (lit≤ tt));
    }

sheet_plan_fits : (s : List ℕ) → PlanFits (plan_in s)
unfolding plan_in
sheet_plan_fits s =
    let n : ℕ = component_count s in
    record {
      components = length-row zero_component most_components (λ i. component_in (block_at s i)) n;
      each = row_every zero_component most_components (λ i. component_in (block_at s i)) n zero_component_fits (λ i. block_fits (block_at s i));
      entries = length-row 0 most_entries (λ j. field_at s (structure_place s + entry_bits * j) entry_bits) (entry_count n);
      short = (
        field_below s edition_bits component_count_bits 16 (lit≤ tt),
        row_every 0 most_entries (λ j. field_at s (structure_place s + entry_bits * j) entry_bits) (entry_count n) (lit≤ tt)
            (λ j. field_below s (structure_place s + entry_bits * j) entry_bits 16 (lit≤ tt)),
      );
    }

pub read_fits : (s : List ℕ) → PlanFits (read_of s).plan
unfolding read_of
read_fits s = go (first_broken (sheet_tests s))
  where
    go : (k : ℕ) → PlanFits (reading k (plan_in s)).plan
    go zero = sheet_plan_fits s
    go (suc k) = zero_plan_fits
