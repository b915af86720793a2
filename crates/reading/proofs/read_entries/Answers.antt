-- `reading::read_entries` meets its contract. Assumes nothing.
use Rattle.std.proofs.Common.{◌+◌, ◌*◌, ℕ, replicate, sym, ◌∙◌, arith}
use Rattle.std.proofs.lemmas.List.{take-append-drop, set-append_left}
use Rattle.theory.specs.Limits.{most_entries}
use Rattle.field.specs.Bits.{field_at}
use Rattle.field.proofs.FieldLaws.{field_lt}
use Rattle.block.specs.Rows.{row}
use Rattle.block.proofs.Rows.{row_next}
use Rattle.reading.proofs.read_entries.Goals as goal

pub loop-entry-init : goal.loop-entry-init
unfolding row
loop-entry-init c = record { sheet_is = grind arith; place_is = omega arith; read = take-append-drop c.args.m (replicate most_entries 0) }

pub overflow_cast-entry : goal.overflow_cast-entry
overflow_cast-entry c = omega (arith, c.take.ensures.value, field_lt c.loop-entry.codes.src.now c.loop-entry.codes.at 4)

pub loop-entry-preserved : goal.loop-entry-preserved
loop-entry-preserved c =
    let l = c.loop-entry in
    let i = l.invariant in
    let f = λ (j : ℕ). field_at c.args.sheet.now (c.args.place + 4 * j) 4 in
    record {
      sheet_is = grind arith;
      place_is = omega arith;
      read =
          sym (set-append_left l.entry-items _ l.entry-index _ (omega arith))
          ∙ row_next 0 most_entries f _ l.entry-index _ i.read (rw (i.sheet_is, i.place_is) at c.take.ensures.value);
    }
