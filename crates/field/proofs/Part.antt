-- Fields put into a part of a list that starts at byte m are put into the list, 8 m bits further on. Assumes nothing.
use mathlib.Core.Path.{◌≡◌, refl, ◌∙◌}
use mathlib.Core.List.{List, [], ◌∷◌, append-nil}
use Prim.Native.Nat.{ℕ, zero, suc, ◌+◌, ◌-◌, ◌*◌, ◌/◌, ◌%◌, ◌≤◌}
use native.Mathlib.Nat.{add_assoc, add-zero}
use native.Mathlib.Omega.{arith}
use lib.ListN.{length, take, drop, take-append-drop}
use lib.Seq.{get_or-drop, drop-set-add, take-set-le, drop-length}
use borrow.Rule.Slice.PartMut.{put_mid, Post-is}
use Rattle.field.specs.Bits.{set_bit, put_at}
use Rattle.field.specs.Fields.{put_all}
use Rattle.field.specs.declared.Field.{Field}

set_bit-drop : (s : List ℕ) (m j b : ℕ) → set_bit (drop m s) j b ≡ drop m (set_bit s (8 * m + j) b)
unfolding set_bit
set_bit-drop s m j b =
    let q : (8 * m + j) / 8 ≡ m + j / 8 = omega arith in
    let r : (8 * m + j) % 8 ≡ j % 8 = omega arith in
    rw (q, r, drop-set-add, get_or-drop)

set_bit-take : (s : List ℕ) (m j b : ℕ) → take m (set_bit s (8 * m + j) b) ≡ take m s
unfolding set_bit
set_bit-take s m j b = take-set-le m s ((8 * m + j) / 8) _ (omega arith)

put_at_drop : (s : List ℕ) (m a w v : ℕ) → put_at (drop m s) a w v ≡ drop m (put_at s (8 * m + a) w v)
unfolding put_at
put_at_drop s m a zero v = refl
put_at_drop s m a (suc w) v = rw (put_at_drop s m a w (v / 2), set_bit-drop, add_assoc (8 * m) a w)

put_at_take : (s : List ℕ) (m a w v : ℕ) → take m (put_at s (8 * m + a) w v) ≡ take m s
unfolding put_at
put_at_take s m a zero v = refl
put_at_take s m a (suc w) v = rw (add_assoc (8 * m) a w) (set_bit-take (put_at s (8 * m + a) w (v / 2)) m (a + w) (v % 2) ∙ put_at_take s m a w (v / 2))

put_all_drop : (s : List ℕ) (m a : ℕ) (fs : List Field) → put_all (drop m s) a fs ≡ drop m (put_all s (8 * m + a) fs)
unfolding put_all
put_all_drop s m a [] = refl
put_all_drop s m a (f ∷ fs) =
    rw (put_at_drop s m a f.width f.value, add_assoc (8 * m) a f.width)
    (put_all_drop (put_at s (8 * m + a) f.width f.value) m (a + f.width) fs)

put_all_take : (s : List ℕ) (m a : ℕ) (fs : List Field) → take m (put_all s (8 * m + a) fs) ≡ take m s
unfolding put_all
put_all_take s m a [] = refl
put_all_take s m a (f ∷ fs) =
    rw (add_assoc (8 * m) a f.width)
    (put_all_take (put_at s (8 * m + a) f.width f.value) m (a + f.width) fs ∙ put_at_take s m a f.width f.value)

-- The list when the rest from byte m was lent and fields were put in there.
pub part_back : (s ys : List ℕ) (m : ℕ) (fs : List Field) → m ≤ length s → ys ≡ put_all (drop m s) 0 fs → put_mid m (length s - m) s ys ≡ put_all s (8 * m) fs
part_back s ys m fs h e =
    rw (Post-is m (length s) s h, drop-length, append-nil, e, put_all_drop s m 0 fs, add-zero, ← put_all_take s m 0 fs, add-zero)
    (take-append-drop m (put_all s (8 * m) fs))
