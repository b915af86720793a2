-- `reading::read_blocks` meets its contract. Assumes nothing.
use mathlib.Core.Path.{◌≡◌, refl, sym, ap, ◌∙◌}
use mathlib.Core.Bool.{false, ◌||◌}
use mathlib.Core.List.{List}
use Prim.Native.Nat.{ℕ, ◌+◌, ◌-◌, ◌≤◌}
use native.Mathlib.Omega.{arith}
use lib.ListN.{length, take, drop, replicate}
use Rattle.std.specs.Prelude.{Option, Some}
use Rattle.std.proofs.lemmas.List.{length-take, take-append-drop, set-append_left}
use Rattle.theory.specs.declared.Component.{Component}
use Rattle.theory.specs.Limits.{most_components}
use Rattle.block.specs.Rows.{row}
use Rattle.block.specs.Block.{zero_component, block_in}
use Rattle.block.specs.declared.Block.{Block}
use Rattle.block.proofs.Laws.{default_is_zero}
use Rattle.plan.specs.Rules.{no_flaws, either_flaws}
use Rattle.reading.specs.declared.Blocks.{Blocks}
use Rattle.numbers.proofs.Numbers.{part_rest}
use Rattle.reading.specs.Reading.{start_of, block_at, uncut_blocks, blocks_in}
use Rattle.reading.proofs.BlocksRead.{cut_is, block_fits, blocks_cut, blocks_uncut, uncut_next, count_fits, next_block, is_cut_short}
use Rattle.reading.proofs.read_blocks.Invariants.{so_far}
use Rattle.reading.proofs.read_blocks.Goals as goal

-- What `read_block` answers, of the rest of the sheet from block i on, where the blocks so far are those of the sheet.
found : (s : List ℕ) (i : ℕ) (r : Blocks) {b : Option Block} → r ≡ uncut_blocks s i
    → b ≡ block_in (take (length s - r.end) (drop r.end s)) → b ≡ block_in (block_at s i)
found s i r p q = q ∙ ap block_in (part_rest s r.end) ∙ ap (λ (x : Blocks). block_in (drop x.end s)) p

-- The block that was read lies within the sheet.
within_sheet : (s : List ℕ) (i : ℕ) (r : Blocks) {b : Block} → r ≡ uncut_blocks s i → Some b ≡ block_in (block_at s i) → r.end ≤ length s
    → r.end + b.size ≤ length s
within_sheet s i r {b} p q h =
    let e = ap (λ (x : Blocks). x.end) p in
    rw e (block_fits s i b q (rw e at h))

pub loop-component-init : goal.loop-component-init
unfolding start_of row
loop-component-init c =
    let e = default_is_zero _ c.default-components.ensures in
    let z = c.default-flaws.ensures in
    record {
      uncut = refl;
      read = rw (e, z.0, z.1.0, z.1.1) (ap (λ (cs : List Component). so_far cs false no_flaws 2) (take-append-drop c.args.n (replicate most_components zero_component)));
      inside = c.requires.1;
    }

pub returns-in_err-b : goal.returns-in_err-b
returns-in_err-b c =
    let s = c.args.sheet.now in
    let l = c.loop-component in
    let q = found s l.component-index _ l.invariant.read c.in_err-b.ensures in
    c.from_residual.ensures ∙ sym (blocks_cut s c.args.n l.component-index (grind (arith, length-take)) (is_cut_short s l.component-index q))

pub new-requires : goal.new-requires
new-requires c =
    let s = c.args.sheet.now in
    let l = c.loop-component in
    count_fits s l.component-index c.in_ok-b.b (found s l.component-index _ l.invariant.read c.in_ok-b.ensures)

pub overflow_add-end : goal.overflow_add-end
overflow_add-end c =
    let s = c.args.sheet.now in
    let l = c.loop-component in
    let p = l.invariant.read in
    omega (arith, within_sheet s l.component-index _ p (found s l.component-index _ p c.in_ok-b.ensures) l.invariant.inside)

pub loop-component-preserved : goal.loop-component-preserved
loop-component-preserved c =
    let s = c.args.sheet.now in
    let l = c.loop-component in
    let i = l.component-index in
    let p = l.invariant.read in
    let q = found s i _ p c.in_ok-b.ensures in
    let e = c.bitor_assign.ensures.after ∙ ap (either_flaws l.flaws) (rw c.new.ensures at c.of.ensures) in
    let a = set-append_left l.component-items (drop c.args.n (replicate most_components zero_component)) i c.in_ok-b.b.component (omega arith) in
    record {
      uncut = uncut_next s i l.invariant.uncut (cut_is s i _ q);
      read =
          ap (λ (cs : List Component). so_far cs (l.nonzero || c.in_ok-b.b.nonzero) c.bitor_assign.new.self (l.end + c.in_ok-b.b.size)) (sym a)
          ∙ next_block s i _ q _ _ _ p refl e;
      inside = within_sheet s i _ p q l.invariant.inside;
    }

pub returns : goal.returns
returns c =
    let s = c.args.sheet.now in
    let l = c.loop-component in
    let i : l.component-index ≡ c.args.n = grind (arith, length-take) in
    let e = default_is_zero _ c.default-components.ensures in
    rw e (ap (λ (x : Blocks). Some x) l.invariant.read ∙ sym (blocks_uncut s l.component-index l.invariant.uncut) ∙ ap (blocks_in s) i)
