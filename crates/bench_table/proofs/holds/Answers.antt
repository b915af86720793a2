-- `bench_table::holds` meets its contract: each record is the wanted one. Assumes nothing.
use Rattle.std.proofs.Common.{rules, tests}
use Rattle.std.proofs.lemmas.List.{length-map}
use Rattle.std.proofs.lemmas.Iterator.{same_from_all, YieldsList-from_slice, YieldsList-from_map, YieldsList-from_zip}
use Rattle.records.specs.Records.{head_record}
use Rattle.bench_table.proofs.holds.Goals as goal

pub returns-then-list-wanted : goal.returns-then-list-wanted
returns-then-list-wanted c =
    same_from_all c.all.new.self _ _ _ _ c.all.ensures.ran
    (YieldsList-from_zip (YieldsList-from_map _ head_record (YieldsList-from_slice c.args.list.records.now (cc)) (cc) (λ x r q k. search rules)) (YieldsList-from_slice c.args.wanted.now (cc)))
    (rw length-map c.if-list-wanted.true) (λ x q k. search (rules, tests)) (λ x q k. search (rules, tests))
