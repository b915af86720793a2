-- `field::put_fields` meets its contract. The invariant: what is left to put, from bit place on, gives what all the fields give.
-- Assumes nothing.
use Rattle.std.proofs.Common.{◌≡◌, drop}
use Rattle.field.specs.Fields.{FieldsInside, put_all}
use Rattle.field.proofs.put_fields.Given as goal

abbrev pub invariant-loop-field : goal.invariant-loop-field
invariant-loop-field l =
    let left = drop l.field-index l.fields in
    FieldsInside l.initial.dst l.place left × (put_all l.dst l.place left ≡ put_all l.initial.dst l.at l.fields)
