-- `bench_table::sheet_with` meets its contract. Assumes nothing.
use Rattle.plan.proofs.Zeros.{default_is_zero}
use Rattle.bench_table.specs.Rows.{plan_of, sheet_of}
use Rattle.bench_table.proofs.Rows.{written_within, written_length}
use Rattle.bench_table.proofs.sheet_with.Goals as goal

pub invariant_of-result : goal.invariant_of-result
invariant_of-result c = record { inside = rw (written_length _ _ c.write_sheet.ensures.value c.unwrap_or-length.ensures) (written_within _ _) }

pub returns : goal.returns
unfolding plan_of sheet_of
returns c =
    rw (written_length _ _ c.write_sheet.ensures.value c.unwrap_or-length.ensures, c.write_sheet.ensures.out_after, c.copy_from_slice.ensures.after, default_is_zero _ c.default.ensures)
