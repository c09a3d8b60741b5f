use Rattle.std.proofs.Common.{sym, ap, subst, ◌∙◌}
use Rattle.std.specs.Prelude.{is_some}
use Rattle.std.specs.List.Sorted.{IsStrictlyIncreasing}
use Rattle.std.proofs.lemmas.Bool.{true≢false}
use Rattle.sq_exec.specs.Waiting.{WaitingValue, numbers_of, txn_at}
use Rattle.sq_exec.specs.Indexed.{is_due_in}
use Rattle.sq_exec.proofs.Indexes.{txn_at_key, numbers_rise}
use Rattle.sq_exec.proofs.waiting.Waiting.txn.Goals as goal

pub unreachable-requires : goal.unreachable-requires
unreachable-requires c =
    let number = c.args.number in
    true≢false (sym c.requires ∙ ap (λ (w : WaitingValue). is_some (txn_at w.arrivals number)) (sym c.self.view_is) ∙ ap is_some (txn_at_key c.self.inside.txns.entries (is_due_in c.self.inside.due_below c.self.inside.due) number ∙ sym c.in-None.ensures))

pub returns-clause-txn : goal.returns-clause-txn
returns-clause-txn c =
    let number = c.args.number in
    c.in-Some.ensures ∙ sym (txn_at_key c.self.inside.txns.entries (is_due_in c.self.inside.due_below c.self.inside.due) number) ∙ ap (λ (w : WaitingValue). txn_at w.arrivals number) c.self.view_is

pub returns-clause-rises : goal.returns-clause-rises
returns-clause-rises c = subst (λ (w : WaitingValue). IsStrictlyIncreasing (numbers_of w.arrivals)) c.self.view_is (numbers_rise c.self.inside.txns.entries (is_due_in c.self.inside.due_below c.self.inside.due) c.self.invariant.ordered)
