-- `block::read_block` meets its contract. Assumes nothing.
use Rattle.std.proofs.Common.{◌≡◌, ◌∙◌, ◌<◌, ◌≤◌, sym, ℕ, List, arith, Some, None, Option, Bool, ◌||◌, lit≤}
use Rattle.std.proofs.Math.Dec.{ltb}
use Rattle.std.proofs.lemmas.Bool.Decides.{nat_tests}
use Rattle.field.specs.Bits.{field_at}
use Rattle.theory.specs.Limits.{most_held}
use Rattle.theory.specs.declared.Component.{Component}
use Rattle.block.specs.Block.{count_bits, zero_bits, total_bits, place_of, size_of, padding_of, count_in, total_in, bad_zero_bits, component_of, block_in}
use Rattle.block.specs.declared.Block.{Block}
use Rattle.block.proofs.Laws.{narrow, Uncut, is_uncut, is_cut, block_uncut, block_cut}
use Rattle.block.proofs.read_block.Goals as goal
use Rattle.block.proofs.read_block.Goals.{After-take-total, then-zero-gt0, else-zero-gt0}

-- The head's fields as they were read.
k_is : (c : After-take-total) → c.take.result ≡ count_in c.args.part.now
k_is c = c.take.ensures.value ∙ rw (c.new-head.ensures.0, c.new-head.ensures.1)

zero_is : (c : After-take-total) → c.take-zero.result ≡ field_at c.args.part.now count_bits zero_bits
zero_is c = c.take-zero.ensures.value ∙ rw (c.take.ensures.self_after.0, c.take.ensures.self_after.1, c.new-head.ensures.0, c.new-head.ensures.1)

total_is : (c : After-take-total) → c.take-total.result ≡ total_in c.args.part.now
total_is c =
    c.take-total.ensures.value
    ∙ rw (
      c.take-zero.ensures.self_after.0,
      c.take-zero.ensures.self_after.1,
      c.take.ensures.self_after.0,
      c.take.ensures.self_after.1,
      c.new-head.ensures.0,
      c.new-head.ensures.1,
    )

-- Whether one of two numbers is not zero, as the code asks it.
first_one : (r : Bool) (a b : ℕ) → r ≡ ltb 0 a → 0 < a → r ≡ (ltb 0 a || ltb 0 b)
first_one r a b e h = grind (arith, nat_tests)

other_one : (r : Bool) (a b : ℕ) → r ≡ ltb 0 b → a ≤ 0 → r ≡ (ltb 0 a || ltb 0 b)
other_one r a b e h = grind (arith, nat_tests)

-- The answer, of its parts.
built : (s : List ℕ) (k z t size padding : ℕ) (b : Bool) (c : Component) → k ≡ count_in s → z ≡ field_at s count_bits zero_bits → t ≡ total_in s
    → size ≡ size_of k → padding ≡ field_at s (place_of k) (padding_of k) → b ≡ (ltb 0 z || ltb 0 padding) → c ≡ component_of s k t → Uncut s
    → ◌≡◌ {A = Option Block} (Some (record { nonzero = b; size = size; component = c })) (block_in s)
unfolding bad_zero_bits
built s k z t size padding b c ke ze te se pe be ce u = rw (ce, be, pe, se, ke, ze, te) (sym (block_uncut s (is_uncut s u)))

-- No block, where this one is cut short.
none : (s : List ℕ) → (Uncut s → ⊥) → None ≡ block_in s
none s h = sym (block_cut s (is_cut s h))

pub returns-then-part-lt-BLOCK_HEAD_BYTES : goal.returns-then-part-lt-BLOCK_HEAD_BYTES
returns-then-part-lt-BLOCK_HEAD_BYTES c = none c.args.part.now (λ u. omega arith)

pub overflow_cast-total : goal.overflow_cast-total
overflow_cast-total c = record { fits = rw (total_is c) (narrow c.args.part.now 0 count_bits zero_bits total_bits (lit≤ tt) (lit≤ tt) (lit≤ tt)).2 }

pub returns-then-not-contains : goal.returns-then-not-contains
returns-then-not-contains c =
    let e = k_is (goal.at.returns-then-not-contains c).After-take-total in
    none c.args.part.now (λ u. grind (arith, nat_tests, c.contains.ensures.value))

pub returns-then-part-size : goal.returns-then-part-size
returns-then-part-size c =
    let e = k_is (goal.at.returns-then-part-size c).After-take-total in
    none c.args.part.now (λ u. omega arith)

pub returns : goal.returns
returns c =
    let h = (goal.at.returns c).After-take-total in
    let e = k_is h in
    let padding : c.take-padding.result ≡ field_at c.args.part.now (place_of c.take.result) (padding_of c.take.result) =
    c.take-padding.ensures.value ∙ rw (c.new-2.ensures.0, c.new-2.ensures.1, c.interval_place.ensures, c.padding_bits.ensures) in
    let ones : c.if-zero-gt0.result ≡ (ltb 0 c.take-zero.result || ltb 0 c.take-padding.result) = elim c.if-zero-gt0.branch [
      | then-zero-gt0 w ↦ first_one _ _ _ w.result-is w.if-zero-gt0.true
      | else-zero-gt0 w ↦ other_one _ _ _ w.result-is w.if-zero-gt0.false
    ] in
    let least : 1 ≤ count_in c.args.part.now = grind (arith, nat_tests, c.contains.ensures.value) in
    let most : count_in c.args.part.now ≤ most_held = grind (arith, nat_tests, c.contains.ensures.value) in
    built _ _ _ _ _ _ _ _ e (zero_is h) (total_is h) c.size-size.ensures padding ones c.read_component.ensures
    (record { least = least; most = most; there = omega arith })
