use Rattle.std.proofs.Common.{false, refl, sym, ap, subst, ◌∙◌}
use Rattle.std.specs.Prelude.{is_some}
use Rattle.std.specs.Ordering.{nat_cmp}
use Rattle.std.specs.Map.{remove_entry}
use Rattle.std.specs.BTreeMap.{is_at}
use Rattle.std.proofs.lemmas.Bool.{true≢false}
use Rattle.sq_exec.specs.Waiting.{WaitingValue, txn_at, without}
use Rattle.sq_exec.specs.Index.{SetsEntry}
use Rattle.sq_exec.specs.Slots.{SlotsValue}
use Rattle.sq_exec.specs.Indexed.{IsIndexed, is_due_in, arrivals_of}
use Rattle.sq_exec.proofs.Entries.{value_gone, sorted_gone}
use Rattle.sq_exec.proofs.Indexes.{txn_at_key, index_gone, arrivals_gone}
use Rattle.sq_exec.proofs.waiting.Waiting.remove.Goals as goal
use Rattle.sq_exec.proofs.waiting.Waiting.remove.Goals.{After-strike}

pub unreachable-requires : goal.unreachable-requires
unreachable-requires c =
    let number = c.args.number in
    true≢false (sym c.requires ∙ ap (λ (w : WaitingValue). is_some (txn_at w.arrivals number)) (sym c.self.view_is)
    ∙ ap is_some (txn_at_key c.self.inside.txns.entries (is_due_in c.self.inside.due_below c.self.inside.due) number ∙ sym c.in_default.ensures.txn))

-- its entry and its number are struck out
strikes : (c : After-strike) → SetsEntry c.in-Some.txn.root c.args.number false false c.self.inside.by_root c.self.inside.due c.strike.new.by_root c.strike.new.due
strikes c =
    subst (λ root. SetsEntry root c.args.number false false c.self.inside.by_root c.self.inside.due c.strike.new.by_root c.strike.new.due)
    (c.number-root.ensures.number ∙ c.root.ensures) c.strike.ensures

pub invariant_of-self : goal.invariant_of-self
invariant_of-self c =
    let number = c.args.number in
    let entries = c.self.inside.txns.entries in
    subst (λ (s : SlotsValue). IsIndexed s.entries c.strike.new.by_root c.strike.new.due c.self.inside.due_below s.next) (sym c.in-Some.ensures.rest)
    (index_gone c.self.inside.txns.entries c.self.inside.by_root c.self.inside.due c.self.inside.due_below c.self.inside.txns.next c.self.invariant number c.in-Some.txn (sym c.in-Some.ensures.txn) (remove_entry (is_at (nat_cmp number)) entries) c.strike.new.by_root c.strike.new.due
    (value_gone entries number c.self.invariant.ordered) (strikes c) (sorted_gone (is_at (nat_cmp number)) entries c.self.invariant.ordered))

pub returns-clause-txn : goal.returns-clause-txn
returns-clause-txn c =
    let number = c.args.number in
    c.in-Some.ensures.txn ∙ sym (txn_at_key c.self.inside.txns.entries (is_due_in c.self.inside.due_below c.self.inside.due) number) ∙ ap (λ (w : WaitingValue). txn_at w.arrivals number) c.self.view_is

pub returns-clause-rest : goal.returns-clause-rest
returns-clause-rest c =
    let number = c.args.number in
    let entries = c.self.inside.txns.entries in
    ap (λ (s : SlotsValue). record { arrivals = arrivals_of s.entries (is_due_in c.self.inside.due_below c.strike.new.due); next = s.next }) c.in-Some.ensures.rest
    ∙ arrivals_gone c.self.inside.txns.entries c.self.inside.by_root c.self.inside.due c.self.inside.due_below c.self.inside.txns.next c.self.invariant number c.in-Some.txn (sym c.in-Some.ensures.txn) (remove_entry (is_at (nat_cmp number)) entries) c.strike.new.by_root c.strike.new.due
    (value_gone entries number c.self.invariant.ordered) (strikes c) refl
    ∙ ap (λ (w : WaitingValue). record w { arrivals = without c.args.number w.arrivals }) c.self.view_is
