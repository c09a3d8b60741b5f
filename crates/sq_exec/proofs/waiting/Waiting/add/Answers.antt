use Rattle.std.proofs.Common.{◌≡◌, ◌++◌, ◌∷◌, ◌<◌, [], ℕ, Bool, List, true, Result, Ok, Err, refl, sym, ap, subst, ◌∙◌}
use Rattle.std.specs.Prelude.{OnOk}
use Rattle.std.specs.BTreeSet.{BTreeSet}
use Rattle.std.specs.Result.{is_ok}
use Rattle.std.proofs.lemmas.Bool.{true≢false}
use Rattle.sq_exec.specs.Waiting.{WaitingValue, no_number, with_last}
use Rattle.sq_exec.specs.Index.{SetsEntry}
use Rattle.sq_exec.specs.Slots.{SlotsValue}
use Rattle.sq_exec.specs.Indexed.{IsIndexed, is_due_in, arrivals_of}
use Rattle.sq_exec.proofs.Entries.{value_last, sorted_last}
use Rattle.sq_exec.proofs.Indexes.{index_last, arrivals_last}
use Rattle.sq_exec.proofs.waiting.Waiting.add.Goals as goal

on_ok : {T E : Type 0} {P : Type 0} → (result : Result T E) → is_ok result ≡ true → OnOk result P → P
on_ok (Ok x) goes p = p
on_ok (Err e) goes p = absurd (true≢false (sym goes))

-- the entry is that of the transaction under the next number
entered : (root own number next : ℕ) (is_due : Bool) (old : BTreeSet (ℕ × ℕ)) (old_due : List ℕ) (new : BTreeSet (ℕ × ℕ)) (new_due : List ℕ) → root ≡ own → number ≡ next
    → SetsEntry root number true is_due old old_due new new_due → SetsEntry own next true is_due old old_due new new_due
entered root own number next is_due old old_due new new_due roots numbers sets = subst (λ n. SetsEntry own n true is_due old old_due new new_due) numbers (subst (λ r. SetsEntry r number true is_due old old_due new new_due) roots sets)

pub invariant_of-self-in-Ok : goal.invariant_of-self-in-Ok
invariant_of-self-in-Ok c =
    let w = c.self.inside in
    let enters =
    entered c.number-root.result (c.args.txn).root c.next-number.result w.txns.next c.args.is_due w.by_root w.due c.enter.new.by_root c.enter.new.due (c.number-root.ensures.number ∙ c.root.ensures) c.next-number.ensures
    (on_ok c.enter.result c.if-is_err.ensures.negation c.enter.ensures.ok) in
    let left : w.txns.next < no_number = subst (λ (v : WaitingValue). v.next < no_number) (sym c.self.view_is) c.requires in
    subst (λ (s : SlotsValue). IsIndexed s.entries c.enter.new.by_root c.enter.new.due w.due_below s.next) (sym c.in-Ok.ensures.ok)
    (index_last c.self.inside.txns.entries c.self.inside.by_root c.self.inside.due c.self.inside.due_below c.self.inside.txns.next c.self.invariant c.args.txn c.args.is_due (w.txns.entries ++ (w.txns.next, c.args.txn) ∷ []) c.enter.new.by_root c.enter.new.due
    (value_last w.txns.entries w.txns.next c.args.txn c.self.invariant.below) enters left (sorted_last w.txns.entries w.txns.next c.args.txn c.self.invariant.ordered c.self.invariant.below))

pub returns-in-Ok-clause-ok : goal.returns-in-Ok-clause-ok
returns-in-Ok-clause-ok c =
    let w = c.self.inside in
    let enters =
    entered c.number-root.result (c.args.txn).root c.next-number.result w.txns.next c.args.is_due w.by_root w.due c.enter.new.by_root c.enter.new.due (c.number-root.ensures.number ∙ c.root.ensures) c.next-number.ensures
    (on_ok c.enter.result c.if-is_err.ensures.negation c.enter.ensures.ok) in
    ap (λ (s : SlotsValue). record { arrivals = arrivals_of s.entries (is_due_in w.due_below c.enter.new.due); next = s.next }) c.in-Ok.ensures.ok
    ∙ arrivals_last c.self.inside.txns.entries c.self.inside.by_root c.self.inside.due c.self.inside.due_below c.self.inside.txns.next c.self.invariant c.args.txn c.args.is_due (w.txns.entries ++ (w.txns.next, c.args.txn) ∷ []) c.enter.new.by_root c.enter.new.due
    (value_last w.txns.entries w.txns.next c.args.txn c.self.invariant.below) enters refl
    ∙ ap (λ (v : WaitingValue). with_last v c.args.txn c.args.is_due) c.self.view_is
