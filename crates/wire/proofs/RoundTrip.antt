-- A plan of 16-bit numbers, written as bytes, is read back. Assumes nothing.
use Prim.Native.Nat.{ℕ, zero, suc, ◌+◌, ◌*◌, ◌^◌, ◌≤◌, ◌<◌}
use mathlib.Core.Path.{◌≡◌, refl, sym, ap, ap₂, ◌∙◌}
use mathlib.Core.List.{List, [], ◌∷◌, ◌++◌, map, append_assoc, append-nil}
use native.Mathlib.Nat.{add-zero}
use native.Mathlib.Omega.{arith}
use lib.ListN.{length, get_or, take, drop, length-append, length-drop, get_or-append}
use lib.Seq.{take-add, length-take-le, get_or-drop, drop-drop, drop_at}
use Rattle.theory.specs.Limits.{most_held, most_components, most_entries}
use Rattle.theory.specs.Sums.{count_from, for_each, Every, none, more}
use Rattle.theory.specs.Lists.{no_component}
use Rattle.theory.specs.declared.Component.{Component}
use Rattle.theory.proofs.Sums.{map_places}
use Rattle.theory.proofs.Every.{every_append, index_of_every}
use Rattle.numbers.specs.Numbers.{Bytes, big_endian, onto, number_at}
use Rattle.numbers.proofs.Numbers.{bytes_take, bytes_drop, length-big_endian, big_endian-onto, read_back}
use Rattle.plan.specs.declared.Plan.{Plan}
use Rattle.plan.proofs.Tests.{map_below}
use Rattle.wire.specs.Wire.{number_bytes, component_size, component_start, entries_start, plan_bytes, number_in, numbers_in, decode_component, decode_plan}
use Rattle.wire.specs.Wire.{encode_numbers, component_numbers_of, plan_numbers_of, encode_plan, AsTheyStand}

-- A number of 16 bits.
abbrev pub Word : ℕ → Type 0
Word x = x < 256 ^ number_bytes

-- What is read back: lists of the lengths that the types have, of numbers of 16 bits.
pub record ComponentFits (c : Component) : Type 0 where
  pub lows : length c.lows ≡ most_held
  pub highs : length c.highs ≡ most_held
  pub weights : length c.weights ≡ most_held
  pub short : Every Word (component_numbers_of c)

pub record PlanFits (p : Plan) : Type 0 where
  pub components : length p.components ≡ most_components
  pub each : Every ComponentFits p.components
  pub entries : length p.entries ≡ most_entries
  pub short : (Word p.count) × Every Word p.entries

-- ---- numbers

number_back : (ns s : List ℕ) (i : ℕ) → Every Word ns → i < length ns → number_in (encode_numbers ns ++ s) i ≡ get_or ns i 0
unfolding big_endian
number_back [] s i h l = absurd (omega arith)
number_back (n ∷ ns) s zero (more h hs) l = read_back 2 n h
number_back (n ∷ ns) s (suc i) (more h hs) l =
    let e : 2 * suc i ≡ suc (suc (2 * i)) = omega arith in
    ap (λ k. number_at (encode_numbers (n ∷ ns) ++ s) k 2) e ∙ number_back ns s i hs (omega arith)

-- The bytes of numbers ns, and any bytes behind them.
module _ (ns s : List ℕ) (h : Every Word ns) where
  abbrev bytes : List ℕ
  bytes = encode_numbers ns ++ s

  -- Where xs stand from number i on, they are read there.
  place_back : (i j : ℕ) (xs ys : List ℕ) → drop i ns ≡ xs ++ ys → j < length xs → number_in bytes (i + j) ≡ get_or xs j 0
  place_back i j xs ys e l =
      let b : i + j < length ns = omega (arith, length-drop i ns, ap length e, length-append xs ys) in
      number_back ns s (i + j) h b ∙ sym (get_or-drop i ns j 0) ∙ ap (λ zs. get_or zs j 0) e ∙ get_or-append xs ys 0 j l

  numbers_back : (i m : ℕ) (xs ys : List ℕ) → drop i ns ≡ xs ++ ys → length xs ≡ m → numbers_in bytes i m ≡ xs
  numbers_back i m xs ys e l =
      rw (← l) (map_below (λ j. number_in bytes (i + j)) (λ j. get_or xs j 0) 0 (length xs) (λ j p q. place_back i j xs ys e (omega arith)) ∙ map_places 0 xs)

  component_back : (i : ℕ) (c : Component) (ys : List ℕ) → ComponentFits c → drop i ns ≡ component_numbers_of c ++ ys → decode_component bytes i ≡ c
  unfolding decode_component
  component_back i c ys f e =
      let three : drop (i + 2) ns ≡ c.lows ++ ((c.highs ++ c.weights) ++ ys) =
      sym (drop-drop 2 i ns) ∙ (ap (drop 2) e ∙ append_assoc c.lows (c.highs ++ c.weights) ys) in
      let two : drop (i + 2 + most_held) ns ≡ c.highs ++ (c.weights ++ ys) =
      sym (drop-drop most_held (i + 2) ns)
      ∙ (ap (drop most_held) three ∙ (drop_at c.lows ((c.highs ++ c.weights) ++ ys) most_held f.lows ∙ append_assoc c.highs c.weights ys)) in
      let one : drop (i + 2 + most_held + most_held) ns ≡ c.weights ++ ys =
      sym (drop-drop most_held (i + 2 + most_held) ns) ∙ (ap (drop most_held) two ∙ drop_at c.highs (c.weights ++ ys) most_held f.highs) in
      let sixteen : i + 2 + 2 * most_held ≡ i + 2 + most_held + most_held = omega arith in
      rw (
        ap (number_in bytes) (sym (add-zero i)) ∙ place_back i 0 (component_numbers_of c) ys e (omega arith),
        place_back i 1 (component_numbers_of c) ys e (omega arith),
        numbers_back (i + 2) most_held c.lows ((c.highs ++ c.weights) ++ ys) three f.lows,
        numbers_back (i + 2 + most_held) most_held c.highs (c.weights ++ ys) two f.highs,
        ap (λ k. numbers_in bytes k most_held) sixteen ∙ numbers_back (i + 2 + most_held + most_held) most_held c.weights ys one f.weights,
      )

-- ---- the plan

component_length : (c : Component) → ComponentFits c → length (component_numbers_of c) ≡ component_size
component_length c f = omega (arith, length-append c.lows (c.highs ++ c.weights), length-append c.highs c.weights, f.lows, f.highs, f.weights)

-- The numbers of component i stand behind those of the ones before it.
component_place : (cs : List Component) → Every ComponentFits cs → (tail : List ℕ) (i : ℕ) → i < length cs
    → drop (component_size * i) (for_each cs component_numbers_of ++ tail)
    ≡ component_numbers_of (get_or cs i no_component) ++ (for_each (drop (suc i) cs) component_numbers_of ++ tail)
component_place [] none tail i l = absurd (omega arith)
component_place (c ∷ cs) (more f fs) tail zero l = append_assoc (component_numbers_of c) (for_each cs component_numbers_of) tail
component_place (c ∷ cs) (more f fs) tail (suc i) l =
    let e : component_size * suc i ≡ component_size + component_size * i = omega arith in
    let rest : List ℕ = for_each cs component_numbers_of ++ tail in
    ap₂ drop e (append_assoc (component_numbers_of c) (for_each cs component_numbers_of) tail)
    ∙ (sym (drop-drop (component_size * i) component_size (component_numbers_of c ++ rest))
    ∙ (ap (drop (component_size * i)) (drop_at (component_numbers_of c) rest component_size (component_length c f))
    ∙ component_place cs fs tail i (omega arith)))

components_length : (cs : List Component) → Every ComponentFits cs → length (for_each cs component_numbers_of) ≡ component_size * length cs
components_length [] none = refl
components_length (c ∷ cs) (more f fs) =
    omega (arith, length-append (component_numbers_of c) (for_each cs component_numbers_of), component_length c f, components_length cs fs)

components_short : {cs : List Component} → Every ComponentFits cs → Every Word (for_each cs component_numbers_of)
components_short none = none
components_short (more f fs) = every_append f.short (components_short fs)

pub plan_back : (p : Plan) (s : List ℕ) → PlanFits p → decode_plan (encode_plan p ++ s) ≡ p
unfolding decode_plan encode_plan
plan_back p s f =
    let ns : List ℕ = plan_numbers_of p in
    let h : Every Word ns = more f.short.0 (every_append (components_short f.each) f.short.1) in
    let at : (i : ℕ) → 0 ≤ i → i < 0 + most_components → decode_component (encode_numbers ns ++ s) (component_start i) ≡ get_or p.components i no_component =
    λ i z l.
    let b : i < length p.components = omega (arith, f.components) in
    component_back ns s h (component_start i) (get_or p.components i no_component) (for_each (drop (suc i) p.components) component_numbers_of ++ p.entries)
    (index_of_every no_component f.each i b) (sym (drop-drop (component_size * i) 1 ns) ∙ component_place p.components f.each p.entries i b) in
    let last : drop entries_start ns ≡ p.entries ++ [] =
    drop_at (for_each p.components component_numbers_of) p.entries (component_size * most_components)
    (components_length p.components f.each ∙ ap (λ m. component_size * m) f.components)
    ∙ sym (append-nil p.entries) in
    rw (
      number_back ns s 0 h (omega arith),
      map_below (λ i. decode_component (encode_numbers ns ++ s) (component_start i)) (λ i. get_or p.components i no_component) 0 most_components at
          ∙ (ap (λ m. map (λ i. get_or p.components i no_component) (count_from 0 m)) (sym f.components) ∙ map_places no_component p.components),
      numbers_back ns s h entries_start most_entries p.entries [] last f.entries,
    )

length_encoded : (ns : List ℕ) → length (encode_numbers ns) ≡ number_bytes * length ns
length_encoded [] = refl
length_encoded (n ∷ ns) = omega (arith, length-append (big_endian number_bytes n) (encode_numbers ns), length-big_endian number_bytes n, length_encoded ns)

pub plan_length : (p : Plan) → PlanFits p → length (encode_plan p) ≡ plan_bytes
unfolding encode_plan
plan_length p f =
    length_encoded (plan_numbers_of p)
    ∙ omega (
      arith,
      length-append (for_each p.components component_numbers_of) p.entries,
      components_length p.components f.each,
      f.components,
      f.entries,
    )

-- ---- bytes, there and back

two_back : (s : List ℕ) (a : ℕ) → Bytes s → a + 2 ≤ length s → big_endian 2 (number_at s a 2) ≡ take 2 (drop a s)
two_back s a b h =
    let t : List ℕ = take 2 (drop a s) in
    let l : length t ≡ 2 = length-take-le 2 (drop a s) (omega (arith, length-drop a s)) in
    ap (λ m. big_endian m (onto 0 t)) (sym l) ∙ big_endian-onto 0 t (bytes_take 2 (drop a s) (bytes_drop a s b))

row_back : (s : List ℕ) (i m : ℕ) → Bytes s → 2 * (i + m) ≤ length s
    → encode_numbers (map (number_in s) (count_from i m)) ≡ take (2 * m) (drop (2 * i) s)
row_back s i zero b h = refl
row_back s i (suc m) b h =
    let e : 2 * suc m ≡ 2 + 2 * m = omega arith in
    let f : 2 * suc i ≡ 2 * i + 2 = omega arith in
    rw (two_back s (2 * i) b (omega arith), row_back s (suc i) m b (omega arith), e, f)
    (ap (λ t. take 2 (drop (2 * i) s) ++ take (2 * m) t) (sym (drop-drop 2 (2 * i) s)) ∙ sym (take-add 2 (2 * m) (drop (2 * i) s)))

-- Numbers are taken as they stand: the plan that bytes spell has no other bytes.
pub bytes_back : AsTheyStand
unfolding decode_plan decode_component encode_plan
bytes_back s b h = row_back s 0 168 b h
