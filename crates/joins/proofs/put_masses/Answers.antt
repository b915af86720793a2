-- `joins::put_masses` meets its contract: what the component lists stands there, and the rest goes in behind it. Assumes nothing.
use Rattle.std.proofs.Common.{◌≡◌, ◌∙◌, sym, length, ◌≤◌, rules, arith}
use Rattle.theory.specs.Focal.{focal, listed}
use Rattle.theory.specs.declared.Component.{Component}
use Rattle.theory.specs.Limits.{most_held, most_intervals, top_speed}
use Rattle.theory.specs.Masses.{rest_focal, added}
use Rattle.theory.specs.Order.{inserted, collect}
use Rattle.theory.proofs.Collect.{order_collect}
use Rattle.theory.proofs.Lists.{length_insert, length-collect}
use Rattle.theory.proofs.Masses.{listed-count, collect-added, some_rest}
use Rattle.joins.proofs.Holding.{Held, insertable, held_room, held_step}
use Rattle.joins.proofs.put_masses.Goals.{After-put_listed-rest}
use Rattle.joins.proofs.put_masses.Goals as goal

-- What it lists stands there, and with the rest put in it is the whole list.
module _ (c : After-put_listed-rest) where
  abbrev s : Component
  s = c.args.c.component.now

  short : length (collect (listed s)) ≤ most_held
  short = omega (arith, length-collect (listed s), listed-count s, c.args.c.held)

  held : Held c.args.out.now c.put_listed-rest.new.out.bytes.now c.put_listed-rest.new.out.count (collect (listed s))
  held = record {
    bytes = c.put_listed-rest.ensures.bytes;
    count = c.put_listed-rest.ensures.count;
    room = omega (arith, short);
    len = c.requires;
    order = order_collect (listed s);
    under = c.put_listed-rest.ensures.rest_fits.0;
    sum = omega (arith, c.put_listed-rest.ensures.rest_fits.1);
  }

  all : inserted (focal 0 top_speed c.put_listed-rest.result) (collect (listed s)) ≡ collect (added (rest_focal s) (listed s))
  all =
      (λ k. inserted (focal 0 top_speed (c.put_listed-rest.ensures.value k)) (collect (listed s)))
      ∙ sym (collect-added (rest_focal s) (listed s))

  room : length (inserted (focal 0 top_speed c.put_listed-rest.result) (collect (listed s))) ≤ most_intervals
  room = omega (arith, length_insert (focal 0 top_speed c.put_listed-rest.result) (collect (listed s)), short)

pub insert-requires : goal.insert-requires
insert-requires c =
    let k = (goal.at.insert-requires c).After-put_listed-rest in
    insertable (held k) c.put_listed-rest.result (omega (arith, c.put_listed-rest.ensures.value, c.put_listed-rest.ensures.rest_fits.1))

pub unwrap-requires : goal.unwrap-requires
unwrap-requires c = let k = (goal.at.unwrap-requires c).After-put_listed-rest in held_room (held k) _ (room k) c.insert.ensures.value

pub returns : goal.returns
returns c =
    let k = (goal.at.returns c).After-put_listed-rest in
    let s = c.args.c.component.now in
    let h =
    held_step (held k) _ c.insert.ensures.bytes c.insert.ensures.count (omega arith, omega arith)
    (omega (arith, c.put_listed-rest.ensures.value, c.put_listed-rest.ensures.rest_fits.1)) (room k) in
    rw (some_rest s (omega (arith, c.put_listed-rest.ensures.value)), ← all k) (record { value = h.count; out_after = rw (← h.bytes) (search rules) })
