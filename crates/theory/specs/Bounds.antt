-- Demand 3: what it means that two functions of the demand bound the share of time of every division, and are met; and that shares do not
-- rise with the demand. Assumes nothing.
use Rattle.std.specs.Prelude.{ℕ, ◌*◌, ◌≤◌, ◌≡◌, List}
use Rattle.theory.specs.declared.Entry.{Entry}
use Rattle.theory.specs.Division.{Division, share_above, share_total}
use Rattle.theory.specs.declared.Component.{Component}

-- The share of the division D at demand d, against the fraction a / b, as exact fractions.
module _ (es : List Entry) (cs : List Component) where
  abbrev pub ShareAtLeast : Division cs → ℕ → ℕ → ℕ → Type 0
  ShareAtLeast D d a b = a * share_total D.scale cs ≤ share_above es D.parts d * b

  abbrev pub ShareAtMost : Division cs → ℕ → ℕ → ℕ → Type 0
  ShareAtMost D d a b = share_above es D.parts d * b ≤ a * share_total D.scale cs

  abbrev pub ShareIs : Division cs → ℕ → ℕ → ℕ → Type 0
  ShareIs D d a b = share_above es D.parts d * b ≡ a * share_total D.scale cs

-- `low` and `high`, each over `whole`, at each demand that is asked, which is `demand_at i` for an i of I:
pub record Bounds {I : Type 0} (es : List Entry) (cs : List Component) (whole : ℕ) (demand_at low high : I → ℕ) : Type 0 where
  -- no division has a share below the one or above the other;
  pub least : (D : Division cs) (i : I) → ShareAtLeast es cs D (demand_at i) (low i) whole
  pub greatest : (D : Division cs) (i : I) → ShareAtMost es cs D (demand_at i) (high i) whole
  -- one division meets the one at every demand, and one the other;
  pub least_met : (D : Division cs) × ((i : I) → ShareIs es cs D (demand_at i) (low i) whole)
  pub greatest_met : (D : Division cs) × ((i : I) → ShareIs es cs D (demand_at i) (high i) whole)
  -- so at any one demand no fraction a / b that bounds every division is better.
  pub least_tight : (i : I) (a b : ℕ) → ((D : Division cs) → ShareAtLeast es cs D (demand_at i) a b) → a * whole ≤ low i * b
  pub greatest_tight : (i : I) (a b : ℕ) → ((D : Division cs) → ShareAtMost es cs D (demand_at i) a b) → high i * b ≤ a * whole

-- Of two demands the greater never has the greater share.
abbrev pub Antitone : {I : Type 0} → (I → ℕ) → (I → ℕ) → Type 0
Antitone {I} demand_at share_at = (i j : I) → demand_at i ≤ demand_at j → share_at j ≤ share_at i
