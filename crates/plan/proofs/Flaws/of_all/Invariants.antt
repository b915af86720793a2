-- `plan::Flaws::of_all` meets its contract. Assumes nothing.
use Rattle.std.proofs.Common.{◌≡◌, take}
use Rattle.plan.specs.Rules.{flaws_in}
use Rattle.plan.proofs.Flaws.of_all.Given as goal

abbrev pub invariant-loop-c : goal.invariant-loop-c
invariant-loop-c l = l.flaws ≡ flaws_in (take l.c-index l.components)
