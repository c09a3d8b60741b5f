use Rattle.std.proofs.Common.{ap, subst, ◌∙◌}
use Rattle.std.specs.Prelude.{find, option_map}
use Rattle.std.specs.List.Sorted.{IsStrictlyIncreasing}
use Rattle.sq_exec.specs.Index.{FirstOf}
use Rattle.sq_exec.specs.Waiting.{Arrival, WaitingValue, is_on, numbers_of}
use Rattle.sq_exec.specs.Indexed.{is_due_in}
use Rattle.sq_exec.proofs.Indexes.{first_arrival, numbers_rise}
use Rattle.sq_exec.proofs.waiting.Waiting.arrival.Goals as goal

pub returns-clause-number : goal.returns-clause-number
returns-clause-number c =
    let root = c.args.root in
    first_arrival c.self.inside.txns.entries c.self.inside.by_root c.self.inside.due c.self.inside.due_below c.self.inside.txns.next c.self.invariant root c.first_of.result (subst (λ key. FirstOf c.self.inside.by_root key c.first_of.result) c.number.ensures.number c.first_of.ensures)
    ∙ ap (λ (w : WaitingValue). option_map (λ (a : Arrival). a.number) (find (is_on root) w.arrivals)) c.self.view_is

pub returns-clause-rises : goal.returns-clause-rises
returns-clause-rises c = subst (λ (w : WaitingValue). IsStrictlyIncreasing (numbers_of w.arrivals)) c.self.view_is (numbers_rise c.self.inside.txns.entries (is_due_in c.self.inside.due_below c.self.inside.due) c.self.invariant.ordered)
