-- `reading::read_sheet` meets its contract. Assumes nothing.
use mathlib.Core.Path.{◌≡◌, refl, sym, ap, ◌∙◌}
use mathlib.Core.List.{List, ◌++◌}
use Prim.Native.Nat.{ℕ, ◌+◌, ◌*◌}
use native.Mathlib.Omega.{arith}
use lib.ListN.{length}
use Rattle.std.specs.Prelude.{Some, Result, Ok, Err}
use Rattle.std.specs.Result.{IsErrAnd}
use Rattle.theory.specs.Sums.{Every, more}
use Rattle.theory.specs.Limits.{entry_count}
use Rattle.theory.specs.declared.Refusal.{Refusal}
use Rattle.theory.specs.Refusals.{refusal_number}
use Rattle.theory.proofs.Refusals.{numbered}
use Rattle.plan.specs.declared.Plan.{Plan}
use Rattle.plan.specs.Plan.{structure_in, zero_plan}
use Rattle.plan.specs.Tests.{first_broken, Unbroken}
use Rattle.plan.specs.Rules.{flaw_tests, structure_tests, rules, Counted}
use Rattle.plan.proofs.Numbers.{no_number, first_found, first_none}
use Rattle.reading.specs.declared.Blocks.{Blocks}
use Rattle.reading.specs.Reading.{component_count, entries_at, start_of, uncut_blocks, blocks_in, plan_in, Head, head_of, head_in, head_tests, layout_tests, sheet_tests, reading, reading_as, read_of}
use Rattle.reading.proofs.BlocksRead.{blocks_read}
use Rattle.reading.proofs.SheetLayout.{head_of_number, head_number, head_count, Headed, headed, layout_ends, plan_read, rules_read}
use Rattle.reading.proofs.Decided.{refuses, reads_refused}
use Rattle.reading.proofs.read_sheet.Goals as goal

module _ (s : List ℕ) where
  -- A refusal that a `?` hands on is what the sheet reads as, where it has the number of the sheet's tests.
  refused : (e : Refusal) (r : Result Plan Refusal) → IsErrAnd r (λ y. y ≡ e) → refusal_number e ≡ first_broken (sheet_tests s) → reading_as r ≡ read_of s
  refused e (Ok p) h q = absurd h
  refused e (Err y) h q =
      let no = numbered y in
      refuses (refusal_number y) zero_plan no ∙ reads_refused s _ no (ap (λ (x : Refusal). refusal_number x) h ∙ q)

  -- The head refuses.
  head_refuses : (e : Refusal) → head_of (refusal_number e) 0 ≡ head_in s → refusal_number e ≡ first_broken (sheet_tests s)
  head_refuses e h =
      let q = sym (head_of_number (refusal_number e) 0) ∙ ap (λ (x : Head). x.number) h ∙ head_number s in
      q ∙ sym (first_found (head_tests s) (layout_tests s ++ rules (plan_in s)) (λ z. numbered e (q ∙ z)))

  module _ (n : ℕ) (h : head_of 0 n ≡ head_in s) where
    -- It is kept.
    no_head : first_broken (head_tests s) ≡ 0
    no_head = sym (ap (λ (x : Head). x.number) h ∙ head_number s)

    count_is : n ≡ component_count s
    count_is = ap (λ (x : Head). x.count) h ∙ head_count s no_head

    begun : Headed s
    begun = headed s no_head

    counted : Counted n
    counted = rw count_is begun.counted

    -- The layout refuses.
    layout_refuses : (e : Refusal) → refusal_number e ≡ first_broken (layout_tests s) → refusal_number e ≡ first_broken (sheet_tests s)
    layout_refuses e q =
        let d = first_none (layout_tests s ++ rules (plan_in s)) begun.kept in
        q ∙ sym (d ∙ first_found (layout_tests s) (rules (plan_in s)) (λ z. numbered e (q ∙ z)))

    module _ (l : 0 ≡ first_broken (layout_tests s)) (b : Blocks) (q : Some b ≡ blocks_in s n) where
      -- It is kept too.
      laid : Every Unbroken (layout_tests s)
      laid = no_number 5 (layout_tests s) refl (sym l)

      blocks_are : b ≡ uncut_blocks s n
      blocks_are = (blocks_read s n q).1

      ends : b.end + n ≡ length s
      ends = ap (λ (x : Blocks). x.end + n) blocks_are ∙ go laid
        where
          go : Every Unbroken (layout_tests s) → start_of s n + n ≡ length s
          go (more e es) = layout_ends s n count_is e

      module _ (m : ℕ) (f : m ≡ entry_count n) (es : List ℕ) (d : es ≡ entries_at s (8 * b.end) m) where
        entries_are : es ≡ entries_at s (8 * b.end) (entry_count n)
        entries_are = d ∙ rw f

        plan_is : ◌≡◌ {A = Plan} (record { components = b.components; count = n; entries = es }) (plan_in s)
        plan_is = plan_read s n count_is b blocks_are es entries_are

        -- The rules 6 to 11 decide.
        decides : first_broken (flaw_tests b.flaws ++ structure_tests n (structure_in es n)) ≡ first_broken (sheet_tests s)
        decides =
            ap first_broken (rules_read s n count_is b blocks_are es entries_are counted.most)
            ∙ sym (first_none (layout_tests s ++ rules (plan_in s)) begun.kept ∙ first_none (rules (plan_in s)) laid)

pub returns-in_err-n : goal.returns-in_err-n
returns-in_err-n c = let s = c.args.sheet.now in refused s _ _ c.from_residual.ensures.1 (head_refuses s _ c.in_err-n.ensures)

pub read_blocks-requires : goal.read_blocks-requires
read_blocks-requires c =
    let s = c.args.sheet.now in
    let h = c.in_ok-n.ensures in
    ((counted s _ h).most, (begun s _ h).long)

pub test_layout-requires : goal.test_layout-requires
test_layout-requires c =
    let s = c.args.sheet.now in
    let h = c.in_ok-n.ensures in
    record { count = count_is s _ h; counted = counted s _ h; short = (begun s _ h).short; found = c.read_blocks.ensures }

pub returns-in_err-components : goal.returns-in_err-components
returns-in_err-components c =
    let s = c.args.sheet.now in
    refused s _ _ c.from_residual-in_err-components.ensures.1 (layout_refuses s _ c.in_ok-n.ensures _ c.in_err-components.ensures.number)

pub overflow_mul-end : goal.overflow_mul-end
overflow_mul-end c =
    let s = c.args.sheet.now in
    let h = c.in_ok-n.ensures in
    let d = c.in_ok-components.ensures in
    omega (arith, ends s _ h d.number _ (sym d.found ∙ c.read_blocks.ensures), (begun s _ h).short)

pub entry_count-requires : goal.entry_count-requires
entry_count-requires c = counted c.args.sheet.now _ c.in_ok-n.ensures

pub read_entries-entries-requires : goal.read_entries-entries-requires
read_entries-entries-requires c =
    let s = c.args.sheet.now in
    let h = c.in_ok-n.ensures in
    let d = c.in_ok-components.ensures in
    let a = ends s _ h d.number _ (sym d.found ∙ c.read_blocks.ensures) in
    let m = counted s _ h in
    let e = c.entry_count.ensures in
    (omega (arith, e, m.least, m.most), omega (arith, e, m.least, m.most, a), omega (arith, e, m.most, a, (begun s _ h).short))

pub test_rules-requires : goal.test_rules-requires
test_rules-requires c = counted c.args.sheet.now _ c.in_ok-n.ensures

pub returns-in_err-test_rules : goal.returns-in_err-test_rules
returns-in_err-test_rules c =
    let s = c.args.sheet.now in
    let d = c.in_ok-components.ensures in
    let k = decides s _ c.in_ok-n.ensures d.number _ (sym d.found ∙ c.read_blocks.ensures) _ c.entry_count.ensures _ c.read_entries-entries.ensures in
    refused s _ _ c.from_residual-in_err-test_rules.ensures.1 (c.in_err-test_rules.ensures ∙ k)

pub returns : goal.returns
unfolding read_of
returns c =
    let s = c.args.sheet.now in
    let d = c.in_ok-components.ensures in
    let k = decides s _ c.in_ok-n.ensures d.number _ (sym d.found ∙ c.read_blocks.ensures) _ c.entry_count.ensures _ c.read_entries-entries.ensures in
    let p = plan_is s _ c.in_ok-n.ensures d.number _ (sym d.found ∙ c.read_blocks.ensures) _ c.entry_count.ensures _ c.read_entries-entries.ensures in
    ap (λ (x : Plan). reading 0 x) p ∙ ap (λ x. reading x (plan_in s)) (c.in_ok-test_rules.ensures ∙ k)
