-- A list that a buffer holds, and one insertion into it. Assumes nothing.
use mathlib.Core.Path.{◌≡◌, refl, ap, ◌∙◌}
use mathlib.Core.List.{List, []}
use Prim.Native.Nat.{ℕ, ◌+◌, ◌-◌, ◌*◌, ◌^◌, ◌≤◌, ◌<◌}
use native.Mathlib.Omega.{arith}
use lib.ListN.{length, drop}
use Rattle.std.proofs.lemmas.Bool.Decides.{nat_tests}
use Rattle.std.specs.Prelude.{Result, Some, None, IsOk}
use Rattle.std.specs.Result.{result_ok}
use Rattle.theory.specs.Sums.{Every}
use Rattle.theory.specs.Focal.{weights}
use Rattle.theory.specs.declared.Focal.{Focal}
use Rattle.theory.specs.Joins.{joined_focal, pairs}
use Rattle.theory.specs.declared.Join.{Join}
use Rattle.theory.specs.Order.{InOrder, inserted}
use Rattle.theory.specs.Limits.{most_intervals, list_bytes}
use Rattle.theory.proofs.Collect.{weights_insert, every_insert, order_insert}
use Rattle.theory.proofs.Lists.{length_insert}
use Rattle.theory.proofs.Monotone.{joined_within}
use Rattle.theory.proofs.Steps.{every_pairs}
use Rattle.records.specs.Records.{encode, records, Under, speed_limit}
use Rattle.records.specs.Store.{holding}
use Rattle.records.specs.Insertion.{insertion_of, insert_or_stay, Insertable}
use Rattle.records.proofs.RecordLaws.{records-encode}
use Rattle.records.proofs.Store.{length-holding, holding_over}
use Rattle.records.proofs.Inserting.{stay_fits, stay_full}

-- ---- records hold what is joined of two records

module _ (op : Join) where
  joined_under : (f g : Focal) → Under speed_limit f → Under speed_limit g → Under speed_limit (joined_focal op f g)
  joined_under f g u v = (
    omega (arith, joined_within op {top = speed_limit - 1} {a = f.low} {b = g.low} (omega arith) (omega arith) (omega arith)),
    omega (arith, joined_within op {top = speed_limit - 1} {a = f.high} {b = g.high} (omega arith) (omega arith) (omega arith)),
  )

  pub pairs_under : {fs gs : List Focal} → Every (Under speed_limit) fs → Every (Under speed_limit) gs → Every (Under speed_limit) (pairs op fs gs)
  pairs_under = every_pairs ◌*◌ op joined_under

-- ---- one interval more

-- The first m records of `out` are the list l, and the other bytes are those of out₀.
pub record Held (out₀ out : List ℕ) (m : ℕ) (l : List Focal) : Type 0 where
  pub bytes : out ≡ holding out₀ l
  pub count : m ≡ length l
  pub room : length l ≤ most_intervals
  pub len : list_bytes ≤ length out₀
  pub order : InOrder l
  pub under : Every (Under speed_limit) l
  pub sum : weights l < 2 ^ 64

-- At first the list is empty.
pub held_none : (out : List ℕ) → list_bytes ≤ length out → Held out out 0 []
unfolding encode
held_none out h = record { bytes = refl; count = refl; room = omega arith; len = h; order = InOrder.none; under = Every.none; sum = omega arith }

module _ {out₀ out : List ℕ} {m : ℕ} {l : List Focal} (h : Held out₀ out m l) where
  pub view : records m out ≡ l
  view = (λ k. records (h.count k) (h.bytes k)) ∙ records-encode (drop (12 * length l) out₀) h.under h.sum

  length_now : length out ≡ length out₀
  length_now = ap length h.bytes ∙ length-holding out₀ l (omega (arith, h.room, h.len))

  pub insertable : (w : ℕ) → weights l + w < 2 ^ 64 → Insertable out m w
  insertable w f =
      record { count = omega (arith, h.room, h.count); room = omega (arith, length_now, h.len); ordered = rw view h.order; fits = rw view f }

  -- One insertion of p: what it answers,
  module _ (p : Focal) where
    pub held_room : {o : Result ℕ ℕ} → length (inserted p l) ≤ most_intervals → o ≡ insertion_of p (records m out) → IsOk o
    held_room k v = rw (rw view at v) (grind (arith, nat_tests))

    pub held_fits : {n : ℕ} → Some n ≡ result_ok (insertion_of p (records m out)) → length (inserted p l) ≤ most_intervals
    held_fits {n} v = let a : Some n ≡ result_ok (insertion_of p l) = rw view at v in grind (arith, nat_tests)

    pub held_over : None ≡ result_ok (insertion_of p (records m out)) → most_intervals < length (inserted p l)
    held_over v = let a : None ≡ result_ok (insertion_of p l) = rw view at v in grind (arith, nat_tests)

    -- and what it leaves there.
    module _ {e : List ℕ} (bytes : e ≡ holding out (insert_or_stay p (records m out))) where
      after : {t : List Focal} → insert_or_stay p l ≡ t → length l ≤ length t → e ≡ holding out₀ t
      after {t} s k = bytes ∙ (λ i. holding (h.bytes i) ((ap (insert_or_stay p) view ∙ s) i)) ∙ holding_over out₀ l t k

      pub held_step : {c : ℕ} → c ≡ length (insert_or_stay p (records m out)) → Under speed_limit p → weights l + p.weight < 2 ^ 64
          → length (inserted p l) ≤ most_intervals → Held out₀ e c (inserted p l)
      held_step c u f k =
          let s : insert_or_stay p l ≡ inserted p l = stay_fits p l k in
          record {
            bytes = after s (length_insert p l).0;
            count = c ∙ ap length (ap (insert_or_stay p) view ∙ s);
            room = k;
            len = h.len;
            order = order_insert p h.order;
            under = every_insert (Under speed_limit) (λ f g v w. w) p u h.under;
            sum = omega (arith, weights_insert p l);
          }

      pub held_stop : None ≡ result_ok (insertion_of p (records m out)) → e ≡ holding out₀ l
      held_stop v = after (stay_full p l (held_over v)) (omega arith)
