-- `run::Stack::push` meets its contract: a component's list is short. Assumes nothing.
use Rattle.std.proofs.Common.{arith}
use Rattle.run.proofs.Stacked.{length_leaf}
use Rattle.run.proofs.Stack.push.Goals as goal

pub put_list-requires : goal.put_list-requires
put_list-requires c = omega (arith, c.put_in_store-count.ensures.value, length_leaf c.args.c.component.now c.args.c.held)
