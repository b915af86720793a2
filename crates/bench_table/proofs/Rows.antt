-- Laws of the rows' sheets: a component's places as they are filled, and what the writer leaves. Assumes nothing.
use Rattle.std.proofs.Common.{◌≡◌, ℕ, zero, suc, ◌+◌, ◌<◌, ◌≤◌, Result, Ok, Err, List, [], ◌∷◌, ◌++◌, map, length, take, drop, replicate, slice_index_or, slice_set, refl, ap, ◌∙◌, add-one, arith}
use Rattle.std.specs.Array.{IsFromFnResult, IsFromFnResultFrom}
use Rattle.std.specs.Fn.{Called, Mut}
use Rattle.std.specs.List.{range_with_len}
use Rattle.std.specs.Result.{result_unwrap_or}
use Rattle.std.proofs.lemmas.List.{map_more, length-map, length-append, append_assoc}
use Rattle.std.proofs.lemmas.List.FromFn.{fill_by_all}
use Rattle.std.proofs.Math.Seq.{set-append_seam, drop-cons, length-take-le}
use Rattle.theory.specs.declared.Refusal.{Refusal}
use Rattle.theory.specs.Refusals.{refusal_number}
use Rattle.theory.specs.Limits.{most_held}
use Rattle.plan.specs.declared.Plan.{Plan}
use Rattle.writing.specs.Writing.{number_of, length_of, written, written_as, written_of}
use Rattle.writing.proofs.Accepted.{number_accepts}
use Rattle.bench_table.specs.declared.TheConstants.{LONGEST}
use Rattle.bench_table.specs.Rows.{places}

-- One place more.
filled : (xs zs : List ℕ) (x : ℕ) {i : ℕ} → length xs ≡ i → i < length zs
    → slice_set (xs ++ drop (length xs) zs) i x ≡ (xs ++ (x ∷ [])) ++ drop (length (xs ++ (x ∷ []))) zs
filled xs zs x e h =
    let k : length xs < length zs = rw e h in
    rw (← e, drop-cons zs (length xs) 0 k, set-append_seam xs _ _ x, append_assoc xs (x ∷ []) _, length-append xs (x ∷ []), add-one (length xs)) refl

-- One interval more.
pub placed : (f : ℕ × ℕ × ℕ → ℕ) (xs : List (ℕ × ℕ × ℕ)) (i : ℕ) {ps : List ℕ} → i < length xs → length xs ≤ most_held
    → ps ≡ places (map f (take i xs)) → slice_set ps i (f (slice_index_or xs i (0, 0, 0))) ≡ places (map f (take (i + 1) xs))
placed f xs i h l e =
    let n : length (map f (take i xs)) ≡ i = length-map (take i xs) f ∙ length-take-le i xs (omega arith) in
    rw (e, map_more f xs i (0, 0, 0) h) (filled (map f (take i xs)) (replicate most_held 0) (f (slice_index_or xs i (0, 0, 0))) n (omega arith))

module _ (p : Plan) where
  -- A sheet that is written fits the buffer.
  pub written_within : (room : ℕ) → (written_of p room).length ≤ room
  unfolding written_of
  written_within room = go (number_of p room) refl
    where
      go : (k : ℕ) → number_of p room ≡ k → (written k (length_of p)).length ≤ room
      go zero e = (number_accepts p room e).fits
      go (suc k) e = omega arith

  -- Its length is the writer's answer, 0 where the plan is refused.
  pub written_length : (r : Result ℕ Refusal) {w : ℕ} → written_as r ≡ written_of p LONGEST → w ≡ result_unwrap_or r 0 → w ≡ (written_of p LONGEST).length
  written_length (Ok n) e h = h ∙ ap (λ w. w.length) e
  written_length (Err refusal) e h = h ∙ (go (refusal_number refusal) ∙ ap (λ w. w.length) e)
    where
      go : (k : ℕ) → 0 ≡ (written k 0).length
      go zero = refl
      go (suc k) = refl

-- Calls that leave the closure as it was, and give h of each index.
abbrev pub Gives : {F B : Type 0} → Mut F (ℕ × Unit {0}) B → F → (ℕ → B) → Type 0
Gives {F} {B} g f h = (i : ℕ) (y : B) (q : F) → Called g f (i, tt) y q → (q ≡ f) × (y ≡ h i)

-- The array that `from_fn` makes of them.
module _ {F B : Type 0} (g : Mut F (ℕ × Unit {0}) B) (f : F) (ys : List B) (h : ℕ → B) (d : B) where
  made_at : (n i k j : ℕ) → Gives g f h → IsFromFnResultFrom g f ys i n → k < n → i + k ≡ j → slice_index_or ys j d ≡ h j
  made_at zero i k j call r l e = absurd (omega arith)
  made_at (suc n) i zero j call (q, y, at, c, r) l e = let z : i ≡ j = omega arith in rw (← z) (at.1 d ∙ (call i y q c).1)
  made_at (suc n) i (suc k) j call (q, y, at, c, r) l e = made_at n (i + 1) k j call (rw (call i y q c).0 at r) (omega arith) (omega arith)

pub made_by : {F B : Type 0} {g : Mut F (ℕ × Unit {0}) B} {f : F} {ys : List B} {n : ℕ} (h : ℕ → B) (d : B) → IsFromFnResult g f ys n → Gives g f h
    → ys ≡ map h (range_with_len 0 n)
made_by {g = g} {f = f} {ys = ys} {n = n} h d r call = fill_by_all h ys n d r.long (λ k l. made_at g f ys h d n 0 k k call r.each l (omega arith))
