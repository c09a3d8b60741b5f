use Rattle.std.proofs.Common.{◌≡◌, ◌||◌, ◌+◌, ◌++◌, ◌∷◌, [], ℕ, length, refl, sym, ap, ◌∙◌, arith}
use Rattle.std.specs.Prelude.{is_some}
use Rattle.std.proofs.lemmas.Bool.{lt-ltb, le-ltb}
use Rattle.std.proofs.lemmas.List.{length-map, length_push}
use Rattle.sq_schema.specs.TxnValue.{TxnValue}
use Rattle.sq_exec.specs.Index.{is_among}
use Rattle.sq_exec.specs.Waiting.{WaitingValue, with_last, numbered_from, numbered_anew}
use Rattle.sq_exec.specs.Indexed.{is_due_in, arrival_of, arrivals_of}
use Rattle.sq_exec.proofs.Entries.{first_from, before, before_length, before_none, before_more, before_all}
use Rattle.sq_exec.proofs.Indexes.{numbered_more}
use Rattle.sq_exec.proofs.waiting.Waiting.numbered_anew.Goals as goal
use Rattle.sq_exec.proofs.waiting.Waiting.numbered_anew.Goals.{then-number-self, else-number-self}

pub loop-number-init : goal.loop-number-init
loop-number-init c =
    let w = c.self.inside in
    c.new-anew.ensures
    ∙ (λ i. record { arrivals = numbered_from 0 (arrivals_of (sym (before_none w.txns.entries) i) (is_due_in w.due_below w.due)); next = length (sym (before_none w.txns.entries) i) })

pub add-requires : goal.add-requires
add-requires c =
    let next = ap (λ (v : WaitingValue). v.next) c.loop-number.invariant in
    omega (arith, next, before_length c.loop-number.from c.self.inside.txns.entries, c.len.ensures.count, c.len.ensures.small)

pub overflow_add-from : goal.overflow_add-from
overflow_add-from c =
    let got = first_from c.loop-number.from c.self.inside.txns.entries (c.in-Some.number, (c.in-Some.txn).now) c.self.invariant.ordered (sym c.in-Some.ensures) in
    omega (arith, c.self.invariant.left, c.self.invariant.below c.in-Some.number (ap is_some got.stands))

pub loop-number-smaller : goal.loop-number-smaller
loop-number-smaller c =
    let got = first_from c.loop-number.from c.self.inside.txns.entries (c.in-Some.number, (c.in-Some.txn).now) c.self.invariant.ordered (sym c.in-Some.ensures) in
    omega (arith, c.self.invariant.left, got.upto, c.self.invariant.below c.in-Some.number (ap is_some got.stands))

pub loop-number-preserved : goal.loop-number-preserved
loop-number-preserved c =
    let w = c.self.inside in
    let number : ℕ = c.in-Some.number in
    let txn : TxnValue = (c.in-Some.txn).now in
    let marked = is_due_in w.due_below w.due in
    let done = before c.loop-number.from w.txns.entries in
    let is_due : c.if-number-self.is_due ≡ marked number =
    elim c.if-number-self.branch [
      | then-number-self v ↦ v.is_due-is ∙ lt-ltb number w.due_below v.if-number-self.true ∙ sym (ap (λ b. b || is_among w.due number) (lt-ltb number w.due_below v.if-number-self.true))
      | else-number-self v ↦ v.is_due-is ∙ v.has-is_due.ensures ∙ sym (ap (λ b. b || is_among w.due number) (le-ltb number w.due_below v.if-number-self.false))
    ] in
    let more : before (number + 1) w.txns.entries ≡ done ++ (number, txn) ∷ [] = before_more c.loop-number.from w.txns.entries (number, txn) c.self.invariant.ordered (sym c.in-Some.ensures) in
    c.in_ok-add.ensures.ok
    ∙ (λ k. with_last (c.loop-number.invariant k) (c.in_ok-clone.ensures.cases k) (is_due k))
    ∙ numbered_more done marked (number, txn) (length done) refl
    ∙ (λ k. record { arrivals = numbered_from 0 (arrivals_of (sym more k) marked); next = (sym (length_push done (number, txn)) ∙ sym (ap length more)) k })

pub returns-clause-anew : goal.returns-clause-anew
returns-clause-anew c =
    let w = c.self.inside in
    let marked = is_due_in w.due_below w.due in
    let all = before_all c.loop-number.from w.txns.entries (sym c.in_default.ensures) in
    c.loop-number.invariant
    ∙ (λ k. record { arrivals = numbered_from 0 (arrivals_of (all k) marked); next = length (all k) })
    ∙ (λ k. record { arrivals = numbered_from 0 (arrivals_of w.txns.entries marked); next = sym (length-map w.txns.entries (arrival_of marked)) k })
    ∙ ap numbered_anew c.self.view_is

pub returns-clause-left : goal.returns-clause-left
returns-clause-left c =
    let next = ap (λ (v : WaitingValue). v.next) c.loop-number.invariant in
    omega (arith, next, before_length c.loop-number.from c.self.inside.txns.entries, c.len.ensures.count, c.len.ensures.small)
