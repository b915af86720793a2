-- `records::Records::bisect` meets its contract. Assumes nothing.
use Rattle.std.proofs.Common.{rules}
use Rattle.std.proofs.lemmas.List.Sorted.{IsPartitionPoint-from_clause}
use Rattle.theory.specs.Order.{order}
use Rattle.records.specs.Records.{head_record, keyed}
use Rattle.records.specs.Insertion.{is_before}
use Rattle.records.proofs.Place.{bisected}
use Rattle.records.proofs.view.Records.bisect.Goals as goal

pub returns : goal.returns
returns c =
    let a = c.args in
    let f = keyed a.key 0 in
    let between = c.requires.between in
    let found = c.partition_point.ensures in
    bisected a.self.now.records.now f c.requires.in_order a.from a.to between.2 between.0 between.1 c.partition_point.result found.bound
    (λ p. IsPartitionPoint-from_clause (λ r. is_before (order (head_record r) f)) _ _ found.partitioned p (λ s r q k. search rules))
