-- Rules 6, 7 and 8 of components one after the other. Assumes nothing.
use mathlib.Core.Path.{◌≡◌}
use mathlib.Core.List.{map}
use Prim.Native.Nat.{ℕ, ◌+◌}
use Rattle.theory.specs.Sums.{count_from}
use Rattle.theory.specs.declared.Component.{Component}
use Rattle.plan.specs.Rules.{bad_total, bad_intervals, bad_sum, flaws_of, flaws_in, either_flaws}
use Rattle.plan.proofs.Tests.{any_one_more}

-- One component more.
pub flaws_next : (g : ℕ → Component) (i : ℕ)
    → either_flaws (flaws_in (map g (count_from 0 i))) (flaws_of (g i)) ≡ flaws_in (map g (count_from 0 (i + 1)))
flaws_next g i = rw (any_one_more bad_total g i, any_one_more bad_intervals g i, any_one_more bad_sum g i)
