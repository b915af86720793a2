-- A list built in a buffer by one insertion after the other, and stopped before a 257th interval. Assumes nothing.
use mathlib.Core.Path.{◌≡◌, refl, sym, ap, ◌∙◌}
use mathlib.Core.Logic.{⊎_elim}
use mathlib.Core.List.{List, [], ◌∷◌}
use Prim.Native.Nat.{ℕ, ◌+◌, ◌^◌, ◌≤◌, ◌<◌}
use native.Mathlib.Omega.{arith}
use lib.ListN.{length}
use Rattle.std.proofs.lemmas.Bool.Decides.{nat_tests, leb_tells}
use borrow.Author.Tests.{le-leb, lt-leb}
use Rattle.std.specs.Prelude.{Option, Some, None}
use Rattle.std.specs.Result.{result_ok}
use Rattle.theory.specs.Sums.{Every}
use Rattle.theory.specs.Focal.{weights}
use Rattle.theory.specs.declared.Focal.{Focal}
use Rattle.theory.specs.Order.{inserted}
use Rattle.theory.specs.Limits.{most_intervals}
use Rattle.theory.proofs.Collect.{weights_insert}
use Rattle.theory.proofs.Lists.{length_insert, insert_all}
use Rattle.records.specs.Records.{records, Under, speed_limit}
use Rattle.records.specs.Store.{holding}
use Rattle.records.specs.Insertion.{insertion_of, insert_or_stay}
use Rattle.joins.specs.Filling.{Filled, fill, length_of_filled}
use Rattle.joins.proofs.Holding.{Held, held_step, held_fits, held_over, held_stop}

-- ---- a fill goes on, or it stops

module _ (l : List Focal) (p : Focal) (ps : List Focal) where
  fill_goes : length (inserted p l) ≤ most_intervals → fill l (p ∷ ps) ≡ fill (inserted p l) ps
  fill_goes h = grind (arith, nat_tests)

  fill_stops : most_intervals < length (inserted p l) → fill l (p ∷ ps) ≡ record { list = l; count = length (inserted p l) }
  fill_stops h = grind (arith, nat_tests)

  -- A fill is taken apart by whether it stops at p.
  by_room : (P : Filled → Type 0) → (length (inserted p l) ≤ most_intervals → P (fill (inserted p l) ps))
      → (most_intervals < length (inserted p l) → P (record { list = l; count = length (inserted p l) })) → P (fill l (p ∷ ps))
  by_room P f g = ⊎_elim (λ k. rw k.0 (f k.1)) (λ k. rw k.0 (g k.1)) (leb_tells (length (inserted p l)) most_intervals)

-- A list that has room is filled up to its room at most.
pub filled_room : (l ps : List Focal) → length l ≤ most_intervals → length (fill l ps).list ≤ most_intervals
filled_room l [] h = h
filled_room l (p ∷ ps) h = by_room l p ps (λ f. length f.list ≤ most_intervals) (filled_room (inserted p l) ps) (λ k. h)

-- ---- a list on the way: `acc` stands in the buffer, `rest` is still to go in, and `g` is what that gives

pub record Filling (out₀ out : List ℕ) (m : ℕ) (rest : List Focal) (g : Filled) : Type 0 where
  pub acc : List Focal
  pub held : Held out₀ out m acc
  pub under : Every (Under speed_limit) rest
  pub fits : weights acc + weights rest < 2 ^ 64
  pub goal : fill acc rest ≡ g

-- What is there at the end.
abbrev pub Done : List ℕ → List ℕ → Option ℕ → Filled → Type 0
Done out₀ out answer g = (answer ≡ length_of_filled g) × (out ≡ holding out₀ g.list)

-- Nothing is left to go in.
pub filling_done : {out₀ out : List ℕ} {m : ℕ} {g : Filled} → Filling out₀ out m [] g → Done out₀ out (Some m) g
filling_done {out₀ = out₀} {m = m} f = (
  ap Some f.held.count ∙ rw (le-leb (length f.acc) most_intervals f.held.room) at (ap length_of_filled f.goal),
  f.held.bytes ∙ ap (λ (x : Filled). holding out₀ x.list) f.goal,
)

every_more : {P : Focal → Type 0} {f : Focal} {fs : List Focal} → Every P (f ∷ fs) → P f × Every P fs
every_more (Every.more p r) = (p, r)

-- One interval goes in.
module _ {out₀ out : List ℕ} {m : ℕ} {p : Focal} {rest : List Focal} {g : Filled} (f : Filling out₀ out m (p ∷ rest) g) where
  pub fits_now : weights f.acc + p.weight < 2 ^ 64
  fits_now = omega (arith, f.fits)

  module _ {e : List ℕ} (bytes : e ≡ holding out (insert_or_stay p (records m out))) where
    pub filling_step : {n c : ℕ} → Some n ≡ result_ok (insertion_of p (records m out)) → c ≡ length (insert_or_stay p (records m out)) → Filling out₀ e c rest g
    filling_step v c =
        let h = held_step f.held p bytes c (every_more f.under).0 fits_now (held_fits f.held p v) in
        record {
          acc = inserted p f.acc;
          held = h;
          under = (every_more f.under).1;
          fits = omega (arith, f.fits, weights_insert p f.acc);
          goal = sym (fill_goes f.acc p rest h.room) ∙ f.goal;
        }

    pub filling_stop : None ≡ result_ok (insertion_of p (records m out)) → Done out₀ e None g
    filling_stop v =
        let k : most_intervals < length (inserted p f.acc) = held_over f.held p v in
        let ge : record { list = f.acc; count = length (inserted p f.acc) } ≡ g = sym (fill_stops f.acc p rest k) ∙ f.goal in (
          rw (lt-leb (length (inserted p f.acc)) most_intervals k) at (ap length_of_filled ge),
          held_stop f.held p bytes v ∙ ap (λ (x : Filled). holding out₀ x.list) ge,
        )

-- ---- what is filled where the whole list has at most most_intervals intervals, and where it has more

insert_all_longer : (l ps : List Focal) → length l ≤ length (insert_all l ps)
insert_all_longer l [] = omega arith
insert_all_longer l (p ∷ ps) = omega (arith, length_insert p l, insert_all_longer (inserted p l) ps)

pub fill_all : (l ps : List Focal) → length (insert_all l ps) ≤ most_intervals → fill l ps ≡ record { list = insert_all l ps; count = length (insert_all l ps) }
fill_all l [] h = refl
fill_all l (p ∷ ps) h = fill_goes l p ps (omega (arith, insert_all_longer (inserted p l) ps)) ∙ fill_all (inserted p l) ps h

pub fill_over : (l ps : List Focal) → length l ≤ most_intervals → most_intervals < length (insert_all l ps) → (fill l ps).count ≡ 257
fill_over l [] r h = omega arith
fill_over l (p ∷ ps) r h = by_room l p ps (λ f. f.count ≡ 257) (λ k. fill_over (inserted p l) ps k h) (λ k. omega (arith, length_insert p l))
