-- A list that is put behind lists of a stack: those stay as they were, and it stands on top. Assumes nothing.
use Prim.Native.Nat.{ℕ, zero, suc, ◌+◌, ◌-◌, ◌*◌, ◌≤◌, ◌<◌}
use mathlib.Core.Path.{◌≡◌, refl, ap, ap₂, subst, ◌∙◌}
use mathlib.Core.List.{List, ◌∷◌}
use native.Mathlib.Numerals.{add-one}
use native.Mathlib.Decide.{ℕ_discrete}
use native.Mathlib.Nat.{le_of_eq}
use native.Mathlib.Omega.{arith}
use lib.ListN.{length, drop, length-set}
use lib.Seq.{get_or-set_same, get_or-set_other}
use Rattle.theory.specs.Sums.{sum_by}
use Rattle.theory.specs.declared.Focal.{Focal}
use Rattle.theory.specs.Limits.{most_intervals, most_components, record_bytes, list_bytes}
use Rattle.records.specs.Records.{Storable}
use Rattle.records.specs.Store.{holding_from, list_of_span, zeroed, settled}
use Rattle.records.proofs.RecordLaws.{length-records}
use Rattle.records.proofs.Store.{length_from, list_in_from, list_in_before, drop_from}
use Rattle.records.specs.declared.Span.{Span}
use Rattle.run.specs.declared.Stack.{Stack}
use Rattle.run.specs.Stack.{no_span, span_at, lists_below, with_list}
use Rattle.run.specs.Run.{cleared}

-- ---- where the lists of a stack stand

-- The records of the lowest d lists.
abbrev pub records_below : Stack → ℕ → ℕ
records_below st zero = 0
records_below st (suc d) = records_below st d + (span_at st d).count

pub records_are : (store : List ℕ) (st : Stack) (d : ℕ) → records_below st d ≡ sum_by length (lists_below store st d)
records_are store st zero = refl
records_are store st (suc d) =
    omega (arith, records_are store st d, length-records (span_at st d).count (drop (span_at st d).start store))

records_rise : (st : Stack) (e k : ℕ) → records_below st e ≤ records_below st (e + k)
records_rise st e zero = let z : e ≡ e + 0 = omega arith in le_of_eq (ap (records_below st) z)
records_rise st e (suc k) = let z : e + suc k ≡ suc (e + k) = omega arith in rw z (omega (arith, records_rise st e k))

-- How the lists of a stack stand in a store: each directly behind the one below it, none too long, the free rest behind them all. The bytes
-- behind the first `size` are those of store₀.
pub record Stored (size : ℕ) (store₀ store : List ℕ) (st : Stack) : Type 0 where
  pub places : length st.lists ≡ most_components
  pub stand : (k : ℕ) → k < st.depth → ((span_at st k).start ≡ record_bytes * records_below st k) × ((span_at st k).count ≤ most_intervals)
  pub behind : st.free ≡ record_bytes * records_below st st.depth
  pub same_length : length store ≡ length store₀
  pub later : drop size store ≡ drop size store₀

module _ {size : ℕ} {store₀ store : List ℕ} {st : Stack} (stored : Stored size store₀ store st) (enough : size ≤ length store₀) where
  pub ends_before : (k d : ℕ) → k < d → d ≤ st.depth → (span_at st k).start + record_bytes * (span_at st k).count ≤ record_bytes * records_below st d
  ends_before k d h g =
      let e : suc k + (d - suc k) ≡ d = omega arith in
      let r : records_below st (suc k) ≤ records_below st d =
      subst (λ n. records_below st (suc k) ≤ records_below st n) e (records_rise st (suc k) (d - suc k)) in
      omega (arith, r, stored.stand k (omega arith))

  -- A list that is written behind the lowest d lists leaves them as they were.
  module _ (start : ℕ) (l : List Focal) (room : start + list_bytes ≤ size) (short : length l ≤ most_intervals) where
    inside : start ≤ length store
    inside = omega (arith, stored.same_length)

    pub below_kept : (d : ℕ) → d ≤ st.depth → record_bytes * records_below st d ≤ start → lists_below (holding_from store start l) st d ≡ lists_below store st d
    below_kept zero h g = refl
    below_kept (suc d) h g =
        ap₂ ◌∷◌
        (list_in_before store start l (span_at st d).start (span_at st d).count inside (omega (arith, ends_before d (suc d) (omega arith) h)))
        (below_kept d (omega arith) (omega arith))

    pub stored_kept : Stored size store₀ (holding_from store start l) st
    stored_kept = record {
      places = stored.places;
      stand = stored.stand;
      behind = stored.behind;
      same_length = length_from store start l (omega (arith, stored.same_length)) ∙ stored.same_length;
      later = drop_from store start l size (omega arith) inside ∙ stored.later;
    }

    -- It goes to place d of the stack.
    module _ (d pairs : ℕ) (low : d ≤ st.depth) (at_d : start ≡ record_bytes * records_below st d) (place : d < most_components) where
      abbrev put : Span
      put = record { start = start; count = length l }

      abbrev next : Stack
      next = with_list st d put pairs

      span_top : span_at next d ≡ put
      span_top = get_or-set_same st.lists d put no_span (omega (arith, stored.places))

      span_below : (k : ℕ) → (k ≡ d → ⊥) → span_at next k ≡ span_at st k
      span_below k e = get_or-set_other st.lists d k put no_span e

      records_same : (e : ℕ) → e ≤ d → records_below next e ≡ records_below st e
      records_same zero h = refl
      records_same (suc e) h = ap₂ (λ a (s : Span). a + s.count) (records_same e (omega arith)) (span_below e (λ q. omega arith))

      below_same : (e : ℕ) → e ≤ d → lists_below (holding_from store start l) next e ≡ lists_below (holding_from store start l) st e
      below_same zero h = refl
      below_same (suc e) h =
          ap₂ ◌∷◌ (ap (list_of_span (holding_from store start l)) (span_below e (λ q. omega arith))) (below_same e (omega arith))

      pub on_top : Storable l → lists_below (holding_from store start l) next (d + 1) ≡ l ∷ lists_below store st d
      on_top u =
          ap (lists_below (holding_from store start l) next) (add-one d)
          ∙ ap₂ ◌∷◌
          (ap (list_of_span (holding_from store start l)) span_top ∙ list_in_from store start l inside u.0 u.1)
          (below_same d (omega arith) ∙ below_kept d low (omega arith))

      pub stored_next : Stored size store₀ (holding_from store start l) next
      stored_next = record {
        places = length-set st.lists d put ∙ stored.places;
        stand = λ k q. elim (ℕ_discrete k d) [
          | yes e ↦ rw (e, span_top, records_same d (omega arith)) (omega arith)
          | no e ↦ rw (span_below k e, records_same k (omega arith)) (stored.stand k (omega arith))
        ];
        behind = rw (add-one d, span_top, records_same d (omega arith)) (omega arith);
        same_length = stored_kept.same_length;
        later = stored_kept.later;
      }

-- What the end of a run makes of the first n bytes.
module _ {size n : ℕ} (q : size ≡ n) (x s after : List ℕ) (d : drop n x ≡ drop n s) where
  pub clears : after ≡ zeroed x 0 size → after ≡ cleared n s
  clears e =
      let z : n - 0 ≡ n = omega arith in
      e ∙ rw (q, z, d)

  pub fills : (l : List Focal) → after ≡ settled size l x → after ≡ settled n l s
  fills l e = e ∙ rw (q, d)
