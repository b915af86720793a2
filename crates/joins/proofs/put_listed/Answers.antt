-- `joins::put_listed` meets its contract: an interval goes in behind those that follow it in the block. Assumes nothing.
use Rattle.std.proofs.Common.{◌≡◌, ◌-◌, ◌+◌, ◌≤◌, length, refl, sym, ap, ◌∙◌, arith}
use Rattle.theory.specs.declared.Component.{Component}
use Rattle.theory.specs.declared.Focal.{Focal}
use Rattle.theory.specs.Focal.{listed, weights}
use Rattle.theory.specs.Limits.{most_intervals}
use Rattle.theory.specs.Order.{inserted, collect}
use Rattle.theory.proofs.Collect.{weights_insert, weights-collect}
use Rattle.joins.proofs.Holding.{held_none, insertable, held_room, held_step}
use Rattle.joins.proofs.Listed.{collected, collected_none, collected_all, collected_next, collected_short}
use Rattle.joins.proofs.put_listed.Goals.{After-focal_at}
use Rattle.joins.proofs.put_listed.Goals as goal

-- One turn: the interval before place i goes in.
module _ (c : After-focal_at) where
  abbrev s : Component
  s = c.args.c.component.now

  weight : c.from-weight.result ≡ c.focal_at.result.weight
  weight = omega (arith, ap (λ (f : Focal). f.weight) c.focal_at.ensures)

  next : collected s (c.loop-i.i - 1) ≡ inserted c.focal_at.result (collected s c.loop-i.i)
  next = collected_next s c.loop-i.i (omega arith) (omega arith) ∙ ap (λ (f : Focal). inserted f (collected s c.loop-i.i)) (sym c.focal_at.ensures)

  sum : weights (collected s (c.loop-i.i - 1)) ≡ weights (collected s c.loop-i.i) + c.from-weight.result
  sum = rw next (omega (arith, weight, weights_insert c.focal_at.result (collected s c.loop-i.i)))

  room : length (inserted c.focal_at.result (collected s c.loop-i.i)) ≤ most_intervals
  room = omega (arith, ap length next, collected_short s (c.loop-i.i - 1))

pub loop-i-init : goal.loop-i-init
loop-i-init c = rw (collected_none c.args.c.component.now) (record {
  held = rw c.requires.0 (held_none c.args.out.now.bytes.now c.requires.1);
  sum = omega arith;
  left = omega arith;
  same_reference = refl;
})

pub insert-requires : goal.insert-requires
insert-requires c =
    let k = (goal.at.insert-requires c).After-focal_at in insertable c.loop-i.invariant.held c.focal_at.result.weight (omega (arith, weight k))

pub unwrap-hint-requires : goal.unwrap-hint-requires
unwrap-hint-requires c =
    let k = (goal.at.unwrap-hint-requires c).After-focal_at in held_room c.loop-i.invariant.held _ (room k) c.insert.ensures.value

pub loop-i-preserved : goal.loop-i-preserved
loop-i-preserved c =
    let k = (goal.at.loop-i-preserved c).After-focal_at in
    record {
      held =
          rw (next k)
          (held_step c.loop-i.invariant.held _ c.insert.ensures.bytes c.insert.ensures.count (omega arith, omega arith) (omega (arith, weight k)) (room k));
      sum = omega (arith, sum k);
      left = omega (arith, sum k);
      same_reference = c.insert.ensures.same_reference ∙ c.loop-i.invariant.same_reference;
    }

pub returns-clause-value : goal.returns-clause-value
returns-clause-value c =
    let e : collected c.args.c.component.now c.loop-i.i ≡ collect (listed c.args.c.component.now) =
    ap (collected c.args.c.component.now) (omega arith) ∙ collected_all c.args.c.component.now in
    omega (arith, ap weights e, weights-collect (listed c.args.c.component.now))
