-- `plan::Flaws::of_all` meets its contract. Assumes nothing.
use Rattle.std.proofs.Common.{arith}
use Rattle.theory.specs.Lists.{no_component}
use Rattle.theory.proofs.Every.{index_of_every}
use Rattle.plan.proofs.Flaws.of_all.Goals as goal

pub new-requires : goal.new-requires
new-requires c = index_of_every no_component c.requires c.loop-c.c-index (omega arith)
