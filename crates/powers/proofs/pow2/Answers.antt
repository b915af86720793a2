-- `powers::pow2` meets its contract: the table's rule, by a test that is computed over the whole table. Assumes nothing.
use Rattle.std.proofs.Common.{◌^◌, rules}
use Rattle.powers.specs.declared.TheConstants.{POWERS}
use Rattle.powers.proofs.Table.{entry_is}
use Rattle.powers.proofs.pow2.Goals as goal

pub returns : goal.returns
returns c = entry_is (λ k. 2 ^ k) POWERS tt c.args.k (search rules)
