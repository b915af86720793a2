-- `block::write_block` meets its contract: head, intervals and padding, one behind the other. Assumes nothing.
use Rattle.std.proofs.Common.{◌≡◌, ℕ, List, [], ◌∷◌, rules}
use Rattle.field.specs.Bits.{put_at}
use Rattle.field.specs.Fields.{FieldsInside, bits, put_all}
use Rattle.field.proofs.Fields.{put_all_append}
use Rattle.theory.specs.declared.Component.{Component}
use Rattle.block.specs.Block.{count_bits, zero_bits, total_bits, place_of, padding_of, intervals_of, fields_of}
use Rattle.block.proofs.RoundTrip.{width_intervals}
use Rattle.block.proofs.write_block.Goals as goal

all : (s x y z : List ℕ) (c : Component) (end width total : ℕ) → end ≡ place_of c.count → width ≡ padding_of c.count → total ≡ c.total
    → x ≡ put_all s 0 (bits count_bits c.count ∷ bits zero_bits 0 ∷ bits total_bits total ∷ []) → y ≡ put_all x (place_of 0) (intervals_of c c.count)
    → z ≡ put_at y end width 0 → z ≡ put_all s 0 (fields_of c)
unfolding put_all fields_of
all s x y z c end width total e f g p q r = rw (r, f, e, q, p, g, put_all_append _ (place_of 0) (intervals_of c c.count), width_intervals c c.count)

pub put_fields-requires : goal.put_fields-requires
unfolding FieldsInside
put_fields-requires c = search rules

pub returns : goal.returns
returns c =
    all _ _ _ _ c.args.c.component.now _ _ _ c.interval_place.ensures (rw c.of.ensures at c.padding_bits.ensures) c.from.ensures c.put_fields.ensures c.put_intervals.ensures c.put_field.ensures
