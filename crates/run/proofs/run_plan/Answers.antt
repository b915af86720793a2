-- `run::run_plan` meets its contract: one entry after the other, and then the list that is left goes to the front. Assumes nothing.
use Rattle.std.proofs.Common.{◌≡◌, ℕ, ◌≤◌, ◌<◌, ◌+◌, sym, ap, ap₂, ◌∙◌, List, [], ◌∷◌, map, length, get_or, drop, drop-cons, add-one, arith}
use Rattle.std.specs.Prelude.{replicate}
use Rattle.std.specs.Array.{AllOfLen}
use Rattle.theory.proofs.Every.{all_alike}
use lib.ListN.{drop_of_length-le}
use Rattle.theory.specs.Limits.{most_components}
use Rattle.theory.specs.declared.Entry.{Entry}
use Rattle.theory.specs.Codes.{entry_of}
use Rattle.records.specs.declared.Span.{Span}
use Rattle.records.specs.Records.{records}
use Rattle.records.proofs.RecordLaws.{length-records}
use Rattle.plan.specs.declared.Plan.{Plan}
use Rattle.plan.proofs.Entries.{components_count}
use Rattle.run.specs.declared.Stack.{Stack}
use Rattle.run.specs.Stack.{no_span, empty_stack, span_at}
use Rattle.run.specs.Run.{ran_of}
use Rattle.run.proofs.Placing.{clears, fills}
use Rattle.run.proofs.Running.{Running, starting, finished, component_below, holds_eight, pushable, push_next, applicable, join_out}
use Rattle.run.proofs.run_plan.Goals as goal
use Rattle.run.proofs.run_plan.Goals.{in-Component, in-Join+in_default}

-- A stack by default is empty.
no_span_is : (s : Span) → (s.start ≡ 0) × (s.count ≡ 0) → s ≡ no_span
no_span_is s h = ap₂ {C = Span} (λ m n. record { start = m; count = n }) h.0 h.1

abbrev ByDefault : Stack → Type 0
ByDefault st =
    AllOfLen (λ (s : Span). (s.start ≡ 0) × (s.count ≡ 0)) st.lists most_components × ((st.depth ≡ 0) × ((st.free ≡ 0) × (st.pairs ≡ 0)))

default_is_empty : (st : Stack) → ByDefault st → st ≡ empty_stack
default_is_empty st d =
    let lists : st.lists ≡ replicate most_components no_span = all_alike no_span no_span_is most_components d.0 in
    let e : ◌≡◌ {A = Stack} (record { lists = st.lists; depth = st.depth; free = st.free; pairs = st.pairs }) empty_stack =
    rw (lists, d.1.0, d.1.1.0, d.1.1.1) in
    e

module _ {p : Plan} {allowance : ℕ} {store₀ store : List ℕ} {st : Stack} (codes : List ℕ) {i : ℕ}
    (now : Running p allowance store₀ (map entry_of (drop i codes)) store st) where
  -- At an entry.
  running_at : i < length codes → {e : Entry} → e ≡ entry_of (get_or codes i 0) → Running p allowance store₀ (e ∷ map entry_of (drop (i + 1) codes)) store st
  running_at lt is = rw (is, add-one i) (rw (drop-cons codes i 0) at now)

  -- Behind the last one.
  ended : length codes ≤ i → Running p allowance store₀ [] store st
  ended past = rw (drop_of_length-le codes past) at now

pub loop-code-init : goal.loop-code-init
loop-code-init c = rw (c.used_codes-code-items.ensures, default_is_empty _ c.default-stack.ensures) (starting c.requires)

pub bounds-used_components-i : goal.bounds-used_components-i
bounds-used_components-i c =
    rw c.used_components.ensures
    (omega (arith, components_count c.args.p, component_below c.requires (running_at _ c.loop-code.invariant c.loop-code-test.true c.in-Component.ensures.0)))

pub new-requires : goal.new-requires
new-requires c =
    rw c.used_components.ensures (holds_eight c.requires (running_at _ c.loop-code.invariant c.loop-code-test.true c.in-Component.ensures.0))

pub push-requires : goal.push-requires
push-requires c = pushable c.requires (running_at _ c.loop-code.invariant c.loop-code-test.true c.in-Component.ensures.0)

pub join-requires : goal.join-requires
join-requires c = applicable c.requires (running_at _ c.loop-code.invariant c.loop-code-test.true c.in-Join.ensures.0)

pub returns-in-Err : goal.returns-in-Err
returns-in-Err c =
    let refused = join_out c.requires (running_at _ c.loop-code.invariant c.loop-code-test.true c.in-Join.ensures.0) c.in-Err.ensures.value c.in-Err.ensures.self_after c.in-Err.ensures.store_after in
    record {
      value = ap ran_of (sym refused.0);
      store_after = rw refused.0 (clears c.store_for-size.ensures c.join.new.store c.args.store.now c.clear.new.s refused.1 c.clear.ensures);
    }

pub loop-code-preserved : goal.loop-code-preserved
loop-code-preserved c = elim c.match-from.branch [
  | in-Component w ↦
      rw (w.stack-is ∙ w.push.ensures.self_after, w.store-is ∙ w.push.ensures.store_after, w.new.ensures, w.used_components.ensures)
      (push_next c.requires (running_at _ c.loop-code.invariant c.loop-code-test.true w.in-Component.ensures.0))
  | in-Join+in_default w ↦
      rw (w.stack-is, w.store-is)
      (join_out c.requires (running_at _ c.loop-code.invariant c.loop-code-test.true w.in-Join.ensures.0) w.in_default.ensures.value w.in_default.ensures.self_after
      w.in_default.ensures.store_after)
]

pub settle-requires : goal.settle-requires
settle-requires c =
    let end = ended _ c.loop-code.invariant c.loop-code-test.false in
    omega (arith, end.stored.stand 0 (omega (arith, end.balance)), c.requires.enough)

pub returns-clause-value : goal.returns-clause-value
returns-clause-value c =
    let left = span_at c.loop-code.stack 0 in
    rw ((finished c.requires (ended _ c.loop-code.invariant c.loop-code-test.false)).1, length-records left.count (drop left.start c.loop-code.store))

pub returns-clause-store_after : goal.returns-clause-store_after
returns-clause-store_after c =
    let end = ended _ c.loop-code.invariant c.loop-code-test.false in
    let over = finished c.requires end in
    let front : (span_at c.loop-code.stack 0).start ≡ 0 = omega (arith, end.stored.stand 0 (omega (arith, over.0))) in
    rw (over.1, front)
    (fills c.store_for-size.ensures c.loop-code.store c.args.store.now c.settle.new.store end.stored.later (records (span_at c.loop-code.stack 0).count c.loop-code.store)
    c.settle.ensures)
