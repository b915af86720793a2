-- Arrays that are made and rows that are filled place by place, and how many demands so many bytes are. Assumes nothing.
use Prim.Native.Nat.{ℕ, zero, suc, ◌+◌, ◌*◌, ◌/◌, ◌%◌, ◌≤◌, ◌<◌}
use mathlib.Core.Path.{◌≡◌, refl, sym, ap, ◌∙◌}
use mathlib.Core.List.{List, ◌∷◌, ◌++◌, map}
use native.Mathlib.Nat.{zero-add}
use native.Mathlib.Numerals.{add-one}
use native.Mathlib.Decide.{dec_lt, ℕ_discrete}
use native.Mathlib.Omega.{arith}
use lib.ListN.{length, take, drop, set, replicate, take-append-drop}
use lib.Seq.{drop-cons}
use denote.Param.Members.{Mut, Called}
use borrow.Author.Tests.{eq-eqb, ne_eqb, le-leb, lt-leb}
use Rattle.std.specs.Array.{IsFromFnResultFrom, IsFromFnResult}
use Rattle.std.proofs.lemmas.List.{take_more_set, drop_all, drop-set-lt}
use Rattle.theory.specs.Limits.{most_demands}
use Rattle.theory.specs.Sums.{count_from}
use Rattle.theory.proofs.Sums.{map_count}
use Rattle.block.specs.Rows.{row}
use Rattle.block.proofs.Rows.{row_front}
use Rattle.wire.specs.Demands.{demand_bytes, demand_count, Lengths}

-- ---- an array made by calls, one for each place

module _ {F B : Type 0} (g : Mut F (ℕ × Unit {0}) B) (f : F) (h : ℕ → B) (call : (i : ℕ) (r : B) (q : F) → Called g f (i, tt) r q → (q ≡ f) × (r ≡ h i)) where
  -- The calls at the n places from i on.
  made_from : (ys : List B) (i n : ℕ) (q : F) → q ≡ f → length ys ≡ i + n → IsFromFnResultFrom g q ys i n → drop i ys ≡ map h (count_from i n)
  made_from ys i zero q e l u = drop_all i ys (omega arith)
  made_from ys i (suc n) q e l (p, y, at, k, rest) =
      let s = call i y p (rw e at k) in
      rw (drop-cons ys i y (omega arith), at.0, s.1, ← add-one i) (ap (h i ∷◌) (made_from ys (i + 1) n p s.0 (omega arith) rest))

  pub made : {ys : List B} {n : ℕ} → IsFromFnResult g f ys n → ys ≡ map h (count_from 0 n)
  made {ys} {n} m = made_from ys 0 n f refl (m.long ∙ omega arith) m.each

-- ---- a row that is filled place by place

-- One place more, with what f gives there.
pub filled_next : {A : Type 0} (f : ℕ → A) (xs : List A) (i : ℕ) (x : A) → i < length xs → take i xs ≡ map f (count_from 0 i) → x ≡ f i
    → take (i + 1) (set xs i x) ≡ map f (count_from 0 (i + 1))
filled_next f xs i x h e d = rw (take_more_set xs i x h, e, d, add-one) (sym (map_count f 0 i i (zero-add i)))

-- The places behind them stay.
row_rest : (f : ℕ → ℕ) (m n k : ℕ) → k ≤ n → drop n (row 0 m f k) ≡ drop n (replicate m 0)
unfolding row
row_rest f m n zero h = refl
row_rest f m n (suc k) h = drop-set-lt n (row 0 m f k) k (f k) (omega arith) ∙ row_rest f m n k (omega arith)

pub filled_row : (f : ℕ → ℕ) (m k : ℕ) → k ≤ m → map f (count_from 0 k) ++ drop k (replicate m 0) ≡ row 0 m f k
filled_row f m k h =
    (λ i. sym (row_front 0 m f k h) i ++ sym (row_rest f m k k (omega arith)) i) ∙ take-append-drop k (row 0 m f k)

-- ---- how many demands so many bytes are

module _ (bytes : ℕ) where
  count_cut : (bytes % demand_bytes ≡ 0 → ⊥) → 0 ≡ demand_count bytes
  count_cut h = rw (ne_eqb (bytes % demand_bytes) 0 h)

  count_long : bytes % demand_bytes ≡ 0 → demand_bytes * most_demands < bytes → 0 ≡ demand_count bytes
  count_long e h = rw (eq-eqb (bytes % demand_bytes) 0 e, lt-leb bytes (demand_bytes * most_demands) h)

  count_whole : bytes % demand_bytes ≡ 0 → bytes ≤ demand_bytes * most_demands → bytes / demand_bytes ≡ demand_count bytes
  count_whole e h = rw (eq-eqb (bytes % demand_bytes) 0 e, le-leb bytes (demand_bytes * most_demands) h)

  -- The length is that of no demands, or of some.
  data Counted : Type 0 where
    none : 0 ≡ demand_count bytes → ((n : ℕ) → n ≤ most_demands → bytes ≡ demand_bytes * n → ⊥) → Counted
    some : bytes % demand_bytes ≡ 0 → bytes ≤ demand_bytes * most_demands → Counted

  counted : Counted
  counted = elim (ℕ_discrete (bytes % demand_bytes) 0) [
    | no n ↦ none (count_cut n) (λ k h e. omega arith)
    | yes e ↦ elim (dec_lt (demand_bytes * most_demands) bytes) [
      | yes h ↦ none (count_long e h) (λ k l q. omega arith)
      | no h ↦ some e (omega arith)
    ]
  ]

  -- There are no more than sixteen, and they stand in the bytes.
  pub count_fits : (demand_count bytes ≤ most_demands) × (demand_bytes * demand_count bytes ≤ bytes)
  count_fits = go counted
    where
      go : Counted → (demand_count bytes ≤ most_demands) × (demand_bytes * demand_count bytes ≤ bytes)
      go (none e h) = (omega arith, omega arith)
      go (some e h) = let q = count_whole e h in (omega arith, omega arith)

pub lengths : Lengths
lengths = record { whole = λ n h. sym (count_whole (demand_bytes * n) (omega arith) (omega arith)) ∙ omega arith; other = λ b h. go b (counted b) h }
  where
    go : (b : ℕ) → Counted b → ((n : ℕ) → n ≤ most_demands → b ≡ demand_bytes * n → ⊥) → demand_count b ≡ 0
    go b (none e k) h = sym e
    go b (some e k) h = absurd (h (b / demand_bytes) (omega arith) (omega arith))
