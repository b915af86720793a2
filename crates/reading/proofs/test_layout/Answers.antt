-- `reading::test_layout` meets its contract. Assumes nothing.
use native.Mathlib.Omega.{arith}
use mathlib.Core.Path.{sym, ◌∙◌}
use Rattle.reading.proofs.BlocksRead.{blocks_end}
use Rattle.reading.proofs.test_layout.Goals as goal

pub overflow_add-b : goal.overflow_add-b
overflow_add-b c =
    let r = c.requires in
    let e = blocks_end c.args.sheet.now c.args.n r.counted.least (sym c.in_ok-b.ensures.ok_part ∙ r.found) in
    omega (arith, e, r.short, r.counted.most)
