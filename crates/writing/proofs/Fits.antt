-- The fields of an accepted plan's sheet fit their widths. Assumes nothing.
use mathlib.Core.List.{List, [], ◌∷◌, map}
use Prim.Native.Nat.{ℕ, zero, suc, ◌+◌, ◌≤◌, ◌<◌}
use native.Mathlib.Decide.{ℕ_discrete}
use native.Mathlib.Omega.{arith}
use lib.Dec.{lit<}
use lib.ListN.{get_or}
use Rattle.theory.specs.Sums.{for_each, count_from, Every, none, more}
use Rattle.theory.specs.Focal.{focal_at, listed, weights, InRange}
use Rattle.theory.specs.Limits.{most_held, most_total, most_components}
use Rattle.theory.specs.declared.Component.{Component}
use Rattle.field.specs.Fields.{bits, Fitting}
use Rattle.field.proofs.Fields.{fitting_append}
use Rattle.block.specs.Block.{fields_of}
use Rattle.block.proofs.RoundTrip.{fitting_fields_of}
use Rattle.plan.specs.declared.Plan.{Plan}
use Rattle.plan.specs.Plan.{codes_of}
use Rattle.theory.specs.Codes.{entry_of}
use Rattle.plan.specs.Rules.{Sized}
use Rattle.writing.specs.Writing.{length_of, block_fields, structure_fields, sheet_fields}
use Rattle.plan.specs.Valid.{Known, Valid}
use Rattle.plan.proofs.Entries.{known_fits}
use Rattle.writing.proofs.Sizes.{end_most}
use Rattle.plan.proofs.Tests.{every_below}

-- One weight of a sum.
weight_within : (c : Component) (k n i : ℕ) → k ≤ i → i < k + n → get_or c.weights i 0 ≤ weights (map (focal_at c) (count_from k n))
weight_within c k zero i a b = absurd (omega arith)
weight_within c k (suc n) i a b = elim (ℕ_discrete i k) [
  | yes e ↦ rw e (omega arith)
  | no e ↦ omega (arith, weight_within c (suc k) n i (omega arith) (omega arith))
]

blocks_fit : {cs : List Component} → Every (λ c. (1 ≤ c.count) × (c.count ≤ most_held)) cs → Every (λ c. (1 ≤ c.total) × (c.total ≤ most_total)) cs
    → Every (λ c. Every InRange (listed c)) cs → Every (λ c. weights (listed c) ≤ c.total) cs → Fitting (for_each cs fields_of)
unfolding Fitting
blocks_fit none none none none = tt
blocks_fit (more {x} {xs} k ks) (more t ts) (more r rs) (more b bs) =
    let c = x in
    fitting_append (fields_of c) (for_each xs fields_of)
    (fitting_fields_of c (omega (arith, k)) (omega (arith, t)) (λ i h.
    let f = every_below (focal_at c) 0 c.count i r (omega arith) (omega arith) in
    (omega (arith, f.low_high, f.below), omega (arith, f.below), omega (arith, weight_within c 0 c.count i (omega arith) (omega arith), b, t))))
    (blocks_fit ks ts rs bs)

codes_fit : (n : ℕ) (codes : List ℕ) → n ≤ most_components → Every (Known n) (map entry_of codes) → Fitting (map (bits 4) codes)
unfolding Fitting
codes_fit n [] l none = tt
codes_fit n (code ∷ codes) l (more k ks) = (known_fits n code l k, codes_fit n codes l ks)

pub sheet_fits : (p : Plan) → Sized p → Valid p → Fitting (sheet_fields p)
unfolding Fitting sheet_fields length_of
sheet_fits p z k = (
  lit< tt,
  (
    omega (arith, k.most),
    (
      omega (arith, end_most p z, k.most),
      fitting_append (block_fields p) (structure_fields p) (blocks_fit k.counts k.totals k.listed_in_range k.at_most)
          (fitting_append (map (bits 4) (codes_of p)) (bits 4 0 ∷ []) (codes_fit p.count (codes_of p) k.most k.known) (lit< tt, tt)),
    ),
  ),
)
