use Rattle.std.proofs.Common.{true, [], sym, ap, subst, ◌∙◌}
use Rattle.sq_exec.specs.Waiting.{with_due}
use Rattle.sq_exec.specs.Indexed.{IsIndexed, is_due_in, arrivals_of}
use Rattle.sq_exec.proofs.Indexes.{all_indexed, all_due}
use Rattle.sq_exec.proofs.waiting.Waiting.make_all_due.Goals as goal

pub invariant_of-self : goal.invariant_of-self
invariant_of-self c =
    let w = c.self.inside in
    subst (λ due. IsIndexed w.txns.entries w.by_root due c.next-self-inside.result w.txns.next) (sym c.clear.ensures)
    (subst (λ below. IsIndexed w.txns.entries w.by_root [] below w.txns.next) (sym c.next-self-inside.ensures) (all_indexed c.self.inside.txns.entries c.self.inside.by_root c.self.inside.due c.self.inside.due_below c.self.inside.txns.next c.self.invariant))

pub returns : goal.returns
returns c =
    let w = c.self.inside in
    (λ i. record { arrivals = arrivals_of w.txns.entries (is_due_in (c.next-self-inside.ensures i) (c.clear.ensures i)); next = w.txns.next })
    ∙ all_due c.self.inside.txns.entries c.self.inside.by_root c.self.inside.due c.self.inside.due_below c.self.inside.txns.next c.self.invariant
    ∙ ap (with_due (λ a. true)) c.self.view_is
