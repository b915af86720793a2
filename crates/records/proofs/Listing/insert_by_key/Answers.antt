-- `records::Listing::insert_by_key` meets its contract. Assumes nothing.
use Rattle.std.proofs.Common.{◌∙◌, refl, arith}
use Rattle.records.specs.Records.{keyed}
use Rattle.records.proofs.Inserting.{there, weight_fits, insert_at, insert_in, insert_over}
use Rattle.records.proofs.Listing.insert_by_key.Goals as goal

pub overflow_add-weight : goal.overflow_add-weight
overflow_add-weight c =
    let list = c.first-list in
    omega (
      arith,
      weight_fits (keyed c.args.key c.args.weight) c.requires (omega arith) list.result (λ h. list.ensures.list) list.ensures.bytes_fit (omega arith) c.find-place.ensures
          c.matches.ensures c.if-matches.true c.focal_in-old.ensures,
    )

pub write_record-requires : goal.write_record-requires
write_record-requires c =
    let list = c.first-list in
    omega (
      arith,
      there (keyed c.args.key c.args.weight) c.requires (omega arith) list.result (λ h. list.ensures.list) list.ensures.bytes_fit (omega arith) c.find-place.ensures
          c.matches.ensures c.if-matches.true c.focal_in-old.ensures,
    )

pub returns-then-matches : goal.returns-then-matches
returns-then-matches c =
    let list = c.first-list in
    let i = insert_at (keyed c.args.key c.args.weight) c.requires (omega arith) list.result (λ h. list.ensures.list) list.ensures.bytes_fit (omega arith) c.find-place.ensures
    c.matches.ensures c.if-matches.true c.focal_in-old.ensures in
    record { value = i.0; bytes = c.write_record.ensures ∙ i.1; count = i.2; same_reference = refl }

pub returns-then-n-eq-MOST_INTERVALS : goal.returns-then-n-eq-MOST_INTERVALS
returns-then-n-eq-MOST_INTERVALS c =
    let list = c.first-list in
    let i = insert_over (keyed c.args.key c.args.weight) c.requires (omega arith) list.result (λ h. list.ensures.list) list.ensures.bytes_fit (omega arith) c.find-place.ensures
    c.matches.ensures c.if-matches.false c.if-n-eq-MOST_INTERVALS.true in
    record { value = i.0; bytes = i.1; count = i.2; same_reference = refl }

pub returns : goal.returns
returns c =
    let list = c.first-list in
    let i = insert_in (keyed c.args.key c.args.weight) c.requires (omega arith) list.result (λ h. list.ensures.list) list.ensures.bytes_fit (omega arith) c.find-place.ensures
    c.matches.ensures c.if-matches.false c.if-n-eq-MOST_INTERVALS.false c.copy_within.new.self c.copy_within.ensures.after in
    record { value = i.0; bytes = c.write_record-2.ensures ∙ i.1; count = i.2; same_reference = refl }
