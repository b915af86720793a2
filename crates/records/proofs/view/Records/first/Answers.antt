-- `records::Records::first` meets its contract. Assumes nothing.
use Rattle.std.proofs.Common.{◌∙◌, List, ℕ, ap, map, take, length, ◌/◌, arith}
use Rattle.records.specs.Records.{head_record}
use Rattle.records.proofs.RecordLaws.{cut_records, cut_bytes}
use Rattle.records.proofs.view.Records.first.Goals as goal

pub invariant_of-result : goal.invariant_of-result
invariant_of-result c =
    let s = c.args.bytes.now in
    record { bytes_fit = rw c.as_chunks.ensures.front (cut_bytes c.args.n (length s / 12) s (λ i. (c.type_inv.bytes i).fits)) }

pub returns : goal.returns
returns c =
    let n = c.args.n in
    let s = c.args.bytes.now in
    record {
      list = ap (λ (rs : List (List ℕ)). map head_record (take n rs)) c.as_chunks.ensures.front ∙ cut_records n (length s / 12) s (omega arith);
      bytes_fit = λ i. (c.type_inv.bytes i).fits;
    }
