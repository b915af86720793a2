-- `joins::join_in_store` meets its contract: the operands are read where they stand, the join fills the rest of the store. Assumes nothing.
use Rattle.std.proofs.Common.{◌≡◌, refl, ap, ◌∙◌, Option, ok_or, List, [], ◌++◌, ℕ, ◌+◌, ◌-◌, ◌*◌, ◌≤◌, length, take, drop, length-drop, arith}
use lib.Seq.{length-take-le}
use Rattle.theory.specs.declared.Focal.{Focal}
use Rattle.theory.specs.declared.Refusal.TheVariants.{ListLength}
use Rattle.theory.specs.Joins.{pairs}
use Rattle.theory.specs.Order.{collect}
use Rattle.theory.specs.Refusals.{number_in}
use Rattle.records.specs.declared.Span.{Span}
use Rattle.records.specs.Records.{records, records_of}
use Rattle.records.specs.Store.{list_of_span, holding}
use Rattle.records.proofs.Store.{part_holds}
use Rattle.joins.specs.Filling.{fill}
use Rattle.joins.specs.Joins.{pairs_in, join_in, join_length, joined_as}
use Rattle.joins.proofs.Answer.{joined, joined-number, joined-length}
use Rattle.joins.proofs.join_in_store.Goals.{After-new-2}
use Rattle.joins.proofs.join_in_store.Goals as goal

-- A list of the store is read from its own bytes, in the first part of the store.
reads : (s : List ℕ) (free : ℕ) (list : Span) {found : List Focal} {lists part : List ℕ} → free ≤ length s → list.start + 12 * list.count ≤ free → lists ≡ take free s
    → part ≡ take (list.start + 12 * list.count - list.start) (drop list.start lists) → (12 * list.count ≤ length part → found ≡ records list.count part) → found ≡ list_of_span s list
reads s free list {part = part} h k e f inside =
    let d : List ℕ = drop list.start (take free s) in
    let m : list.start + 12 * list.count - list.start ≡ 12 * list.count = omega arith in
    let p : part ≡ take (12 * list.count) d = rw (m, e) at f in
    let l : 12 * list.count ≤ length d = rw (length-drop, length-take-le free s h) (omega arith) in
    let n : 12 * list.count ≤ length (take (12 * list.count) d) = rw (length-take-le (12 * list.count) d l) (omega arith) in
    inside (rw p n) ∙ ap (records list.count) p ∙ part_holds s free list.start list.count h k

-- The pairs that are joined are those of the lists in the store.
pairs_are : (c : After-new-2) → pairs c.args.op (records_of c.new.result) (records_of c.new-2.result) ≡ pairs_in c.args.op c.args.store.now c.args.left c.args.right
pairs_are c =
    let s = c.args.store.now in
    let free : c.args.free ≤ length s = omega (arith, c.requires.room) in
    let a : records_of c.new.result ≡ list_of_span s c.args.left =
    reads s c.args.free c.args.left free c.requires.first c.split_at_mut-lists.ensures.front (rw c.range.ensures refl) c.new.ensures.inside in
    let b : records_of c.new-2.result ≡ list_of_span s c.args.right =
    reads s c.args.free c.args.right free c.requires.second c.split_at_mut-lists.ensures.front (rw c.range-2.ensures refl) c.new-2.ensures.inside in
    λ k. pairs c.args.op (a k) (b k)

pub join_lists-requires-clause-fits : goal.join_lists-requires-clause-fits
join_lists-requires-clause-fits c = rw (pairs_are (goal.at.join_lists-requires-clause-fits c).After-new-2) c.requires.fits

pub returns : goal.returns
returns c =
    let s = c.args.store.now in
    let p = pairs_are (goal.at.returns c).After-new-2 in
    let e : c.ok_or.result ≡ joined_as (join_in c.args.op s c.args.left c.args.right) =
    c.ok_or.ensures.value ∙ ap (λ (o : Option ℕ). ok_or o ListLength) c.join_lists.ensures.value
    ∙ joined (pairs c.args.op (records_of c.new.result) (records_of c.new-2.result)) ∙ ap (λ (ps : List Focal). joined_as (collect ps)) p in
    let l : List Focal = join_in c.args.op s c.args.left c.args.right in
    record {
      value = e;
      number = ap number_in e ∙ joined-number l;
      list_length = ap join_length e ∙ joined-length l;
      store_after =
          (λ k. c.split_at_mut-lists.ensures.front k ++ c.join_lists.ensures.out_after k)
          ∙ (λ k. take c.args.free s ++ holding (c.split_at_mut-lists.ensures.back k) (fill [] (p k)).list);
    }
