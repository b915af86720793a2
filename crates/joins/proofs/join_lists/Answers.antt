-- `joins::join_lists` meets its contract: in each turn one pair goes in, which the records of a and b give in order. Assumes nothing.
use Rattle.std.proofs.Common.{◌≡◌, refl, ap, ◌∙◌, List, [], ◌∷◌, ◌++◌, ◌+◌, map, drop, rules, arith}
use Rattle.std.specs.Result.{result_ok}
use Rattle.theory.specs.declared.Focal.{Focal}
use Rattle.theory.specs.Joins.{joined_focal, pairs}
use Rattle.records.specs.Records.{records_of}
use Rattle.records.proofs.RecordLaws.{walk_next, walk_end, walk_under}
use Rattle.joins.specs.Filling.{fill}
use Rattle.joins.proofs.Holding.{pairs_under, held_none, insertable}
use Rattle.joins.proofs.Filling.{Filling, fits_now, filling_step, filling_stop, filling_done}
use Rattle.joins.proofs.join_lists.Goals.{After-focal_in}
use Rattle.joins.proofs.join_lists.Goals as goal

-- The pairs of the row behind record s-index, and those of the rows behind it.
abbrev behind : After-focal_in → List Focal
behind c =
    map (joined_focal c.args.op c.focal_in-f.result) (drop (c.loop-s.s-index + 1) (records_of c.args.b))
    ++ pairs c.args.op (drop (c.loop-r.r-index + 1) (records_of c.args.a)) (records_of c.args.b)

-- The next pair is that of the records which were read.
turn : (c : After-focal_in) {p : Focal} → p ≡ joined_focal c.args.op c.focal_in-f.result c.focal_in.result
    → Filling c.args.out.now c.loop-s.list.bytes.now c.loop-s.list.count (p ∷ behind c) (fill [] (pairs c.args.op (records_of c.args.a) (records_of c.args.b)))
turn c e = rw (e, c.focal_in.ensures) (rw (walk_next c.args.b.records.now c.loop-s.s-index c.loop-s-test.true) at c.loop-s.invariant.filling)

pub loop-r-init : goal.loop-r-init
loop-r-init c = record {
  filling = record {
    acc = [];
    held = held_none c.args.out.now c.requires.room;
    under = pairs_under c.args.op (walk_under c.args.a.records.now c.args.a.bytes_fit) (walk_under c.args.b.records.now c.args.b.bytes_fit);
    fits = omega (arith, c.requires.fits);
    goal = refl;
  };
  same_reference = refl;
}

pub loop-s-init : goal.loop-s-init
loop-s-init c = record {
  filling = rw c.focal_in-f.ensures (rw (walk_next c.args.a.records.now c.loop-r.r-index c.loop-r-test.true) at c.loop-r.invariant.filling);
  same_reference = refl;
}

pub join_focals-requires : goal.join_focals-requires
join_focals-requires c = omega (arith, fits_now (turn c refl))

pub insert-requires : goal.insert-requires
insert-requires c =
    let t = turn (goal.at.insert-requires c).After-focal_in c.join_focals.ensures in insertable t.held c.join_focals.result.weight (fits_now t)

pub returns-in_err-place : goal.returns-in_err-place
returns-in_err-place c =
    let t = turn (goal.at.returns-in_err-place c).After-focal_in c.join_focals.ensures in
    let d = filling_stop t c.insert.ensures.bytes (c.in_err-place.ensures.value ∙ ap result_ok c.insert.ensures.value) in
    record { value = c.from_residual.ensures ∙ d.0; out_after = rw (← d.1) (search rules) }

pub loop-s-preserved : goal.loop-s-preserved
loop-s-preserved c =
    let t = turn (goal.at.loop-s-preserved c).After-focal_in c.join_focals.ensures in
    record {
      filling = filling_step t c.insert.ensures.bytes (c.in_ok-place.ensures.value ∙ ap result_ok c.insert.ensures.value) c.insert.ensures.count;
      same_reference = c.insert.ensures.same_reference ∙ c.loop-s.invariant.same_reference;
    }

pub loop-r-preserved : goal.loop-r-preserved
loop-r-preserved c = record {
  filling = rw (walk_end c.args.b.records.now c.loop-s.s-index c.loop-s-test.false) at c.loop-s.invariant.filling;
  same_reference = c.loop-s.invariant.same_reference ∙ c.loop-r.invariant.same_reference;
}

pub returns : goal.returns
returns c =
    let d = filling_done (rw (walk_end c.args.a.records.now c.loop-r.r-index c.loop-r-test.false) at c.loop-r.invariant.filling) in
    record { value = d.0; out_after = rw (← d.1) (search rules) }
