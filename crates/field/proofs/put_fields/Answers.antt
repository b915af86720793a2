-- `field::put_fields` meets its contract. Assumes nothing.
use Rattle.std.proofs.Common.{◌≡◌, ◌∙◌, ◌<◌, ◌+◌, ℕ, List, length, drop, get_or, arith}
use Rattle.std.proofs.lemmas.List.{drop_more, drop_all}
use Rattle.field.specs.Bits.{put_at}
use Rattle.field.specs.Fields.{FieldInside, FieldsInside, put_all}
use Rattle.field.specs.declared.Field.{Field}
use Rattle.field.proofs.put_fields.Goals as goal
use Rattle.field.proofs.put_fields.Goals.{In-loop-field}

-- Field i may stand where those from it on may, and the others behind it.
inside_next : (s : List ℕ) (a : ℕ) (fs : List Field) (i : ℕ) (d : Field) → i < length fs → FieldsInside s a (drop i fs)
    → FieldInside s a (get_or fs i d).width × FieldsInside s (a + (get_or fs i d).width) (drop (i + 1) fs)
unfolding FieldsInside
inside_next s a fs i d h k = rw (drop_more fs i d) at k

put_next : (s : List ℕ) (a : ℕ) (fs : List Field) (i : ℕ) (d : Field) → i < length fs
    → put_all (put_at s a (get_or fs i d).width (get_or fs i d).value) (a + (get_or fs i d).width) (drop (i + 1) fs) ≡ put_all s a (drop i fs)
unfolding put_all
put_next s a fs i d h = rw (drop_more fs i d)

here : (c : In-loop-field) → FieldInside c.args.dst.now c.loop-field.place (get_or c.args.fields.now c.loop-field.field-index (record { width = 0; value = 0 })).width
here c = (inside_next _ _ _ _ _ c.loop-field-test.true c.loop-field.invariant.0).0

pub put_field-requires : goal.put_field-requires
put_field-requires c =
    let h = here (goal.at.put_field-requires c).In-loop-field in
    record { narrow = h.narrow; within = omega arith; near = h.near }

pub overflow_add-place : goal.overflow_add-place
overflow_add-place c =
    let h = here (goal.at.overflow_add-place c).In-loop-field in
    omega arith

pub loop-field-preserved : goal.loop-field-preserved
loop-field-preserved c =
    let inv = c.loop-field.invariant in (
      (inside_next _ _ _ _ _ c.loop-field-test.true inv.0).1,
      rw c.put_field.ensures (put_next c.loop-field.dst c.loop-field.place _ _ _ c.loop-field-test.true ∙ inv.1),
    )

pub returns : goal.returns
unfolding put_all
returns c = rw (drop_all c.loop-field.field-index c.args.fields.now c.loop-field-test.false) at c.loop-field.invariant.1
