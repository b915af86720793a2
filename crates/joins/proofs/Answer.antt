-- What a join answers, by the length of its list. Assumes nothing.
use mathlib.Core.Path.{◌≡◌, ap, ◌∙◌}
use mathlib.Core.Logic.{⊎_elim}
use mathlib.Core.List.{List, []}
use Prim.Native.Nat.{◌≤◌, ◌<◌}
use native.Mathlib.Omega.{arith}
use lib.ListN.{length}
use Rattle.std.proofs.lemmas.Bool.Decides.{nat_tests, leb_tells}
use Rattle.std.specs.Prelude.{ok_or}
use Rattle.theory.specs.declared.Focal.{Focal}
use Rattle.theory.specs.declared.Refusal.TheVariants.{ListLength}
use Rattle.theory.specs.Order.{collect}
use Rattle.theory.specs.Limits.{most_intervals}
use Rattle.theory.specs.Refusals.{number_in}
use Rattle.theory.proofs.Lists.{insert_all-collect}
use Rattle.joins.specs.Filling.{fill, length_of_filled}
use Rattle.joins.specs.Joins.{joined_as, join_length, number_of_join, length_of_join}
use Rattle.joins.proofs.Filling.{fill_all, fill_over}

module _ (ps : List Focal) where
  pub fill_made : length (collect ps) ≤ most_intervals → fill [] ps ≡ record { list = collect ps; count = length (collect ps) }
  fill_made h =
      fill_all [] ps (rw insert_all-collect h) ∙ ap (λ (l : List Focal). record { list = l; count = length l }) (insert_all-collect ps)

  fill_full : most_intervals < length (collect ps) → (fill [] ps).count ≡ 257
  fill_full h = fill_over [] ps (omega arith) (rw insert_all-collect h)

  -- The answer is by the length of the whole list.
  pub joined : ok_or (length_of_filled (fill [] ps)) ListLength ≡ joined_as (collect ps)
  joined =
      ⊎_elim (λ k. rw (fill_made k.1, k.0)) (λ k. rw (fill_full k.1, k.0)) (leb_tells (length (collect ps)) most_intervals)

-- An answer has its number and its length.
module _ (l : List Focal) where
  pub joined-number : number_in (joined_as l) ≡ number_of_join l
  joined-number = grind (arith, nat_tests)

  pub joined-length : join_length (joined_as l) ≡ length_of_join l
  joined-length = grind (arith, nat_tests)
