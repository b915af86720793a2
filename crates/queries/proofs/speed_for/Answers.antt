-- `queries::speed_for` meets its contract. The invariant: the sum so far is that of the weights in front of what is left, and does not meet the
-- target. Assumes nothing.
use Rattle.std.proofs.Common.{rules, ◌≡◌, refl, sym, ap, ◌∙◌, ℕ, suc, ◌+◌, ◌*◌, ◌≤◌, ◌<◌, List, [], ◌∷◌, ◌++◌, map, length, get_or, append_assoc, length-append, arith}
use Rattle.std.proofs.Math.Seq.{take_at, get_or-append_seam}
use Rattle.std.proofs.lemmas.Bool.{leb-true, leb-false}
use Rattle.std.proofs.lemmas.List.{nil_from_length}
use Rattle.theory.specs.Limits.{thousandths}
use Rattle.theory.specs.Focal.{no_focal, weights}
use Rattle.theory.specs.declared.Focal.{Focal}
use Rattle.theory.specs.Order.{InOrder}
use Rattle.theory.specs.Speed.{Meets, speed_for}
use Rattle.theory.proofs.Sums.{sum_append}
use Rattle.theory.proofs.Speed.{Found, found_speed, no_speed}
use Rattle.records.specs.Records.{head_record, records_of}
use Rattle.queries.proofs.speed_for.Goals as goal

sums : (front left : List Focal) → weights (front ++ left) ≡ weights front + weights left
sums = sum_append (λ f. f.weight)

-- In a turn at the record r, whose interval is f,
module _ {list : List Focal} {left rest : List (List ℕ)} {r : List ℕ} {f : Focal} (front : List Focal) (whole : list ≡ front ++ map head_record left)
    (turn : left ≡ r ∷ rest) (is : f ≡ head_record r) where
  seam : list ≡ front ++ (f ∷ map head_record rest)
  seam = rw (whole, turn, is)

  longer : list ≡ (front ++ (f ∷ [])) ++ map head_record rest
  longer = seam ∙ sym (append_assoc front (f ∷ []) (map head_record rest))

  -- the weights up to this place are summed.
  sum_is : (weights front + f.weight ≡ weights (front ++ (f ∷ []))) × (weights front + f.weight ≤ weights list)
  sum_is = (omega (arith, sums front (f ∷ [])), omega (arith, ap weights seam, sums front (f ∷ map head_record rest)))

  -- The low is the speed where the target is met here, and not before.
  first : (target total : ℕ) → InOrder list → (0 < length list → Meets target total (weights front) → ⊥) → Meets target total (weights front + f.weight)
      → f.low ≡ speed_for target total list
  first target total ordered before met =
      let inside : length front < length list = rw (seam, length-append) (omega arith) in
      let found : Found target total list (length front) = record {
        inside = inside;
        met = rw (longer, take_at (front ++ (f ∷ [])) (map head_record rest) (suc (length front)) (rw length-append (omega arith)), ← sum_is.0) met;
        before = λ m. before (omega arith) (rw (seam, take_at front (f ∷ map head_record rest) (length front) refl) at m);
      } in
      let this : get_or list (length front) no_focal ≡ f = rw seam (get_or-append_seam front f (map head_record rest) no_focal) in
      sym (ap (λ (g : Focal). g.low) this) ∙ found_speed target total ordered found

-- The search ends without a speed where no record is left.
none_left : (target total : ℕ) (l : List Focal) → (0 < length l → Meets target total (weights l) → ⊥) → 0 ≡ speed_for target total l
none_left target total [] h = refl
none_left target total (x ∷ xs) h = no_speed target total (x ∷ xs) (h (omega arith))

pub loop-r-init : goal.loop-r-init
loop-r-init c = ([], ap (map head_record) (sym c.iter-left.ensures.rest), refl, search rules)

pub overflow_add-belief : goal.overflow_add-belief
overflow_add-belief c =
    let (front, whole, sum, before) = c.loop-r.invariant in
    omega (arith, sum_is front whole c.in-Some.ensures.steps c.focal_in-f.ensures)

pub loop-r-preserved : goal.loop-r-preserved
loop-r-preserved c =
    let a = c.args in
    let (front, whole, sum, before) = c.loop-r.invariant in
    let turn = c.in-Some.ensures.steps in
    let f = c.focal_in-f in
    let less =
    leb-false (a.target * a.total) (thousandths * (c.loop-r.belief + f.result.weight)) (sym c.target_met.ensures ∙ c.if-target_met.false) in (
      front ++ (f.result ∷ []),
      longer front whole turn f.ensures,
      omega (arith, sum_is front whole turn f.ensures),
      λ h m. omega (arith, m, less),
    )

pub returns-in_default : goal.returns-in_default
returns-in_default c =
    let a = c.args in
    let (front, whole, sum, before) = c.loop-r.invariant in
    let all : records_of a.list ≡ front ++ [] = rw (nil_from_length c.loop-r.left.rest.now c.in_default.ensures.steps.0) at whole in
    none_left a.target a.total (records_of a.list) (λ h m. before h (omega (arith, m, ap weights all, sums front [])))

pub returns-then-target_met : goal.returns-then-target_met
returns-then-target_met c =
    let a = c.args in
    let (front, whole, sum, before) = c.loop-r.invariant in
    let f = c.focal_in-f in
    let met = leb-true (a.target * a.total) (thousandths * (c.loop-r.belief + f.result.weight)) (sym c.target_met.ensures ∙ c.if-target_met.true) in
    c.from.ensures
    ∙ first front whole c.in-Some.ensures.steps f.ensures a.target a.total c.requires.ordered (λ h m. before h (omega (arith, m))) (omega (arith, met))
