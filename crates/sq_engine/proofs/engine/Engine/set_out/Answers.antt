use Rattle.std.proofs.Common.{[], ◌∷◌, ◌++◌, sym, ap, ◌∙◌, subst}
use Rattle.sq_plan.specs.PlanValue.{PlanValue}
use Rattle.sq_engine.specs.declared.event.Event.TheVariants.{MovesTo}
use Rattle.sq_engine.specs.Values.{at_value}
use Rattle.sq_engine.specs.Engine.{EndsMove}
use Rattle.sq_engine.proofs.Engines.{adds_move, due_here}
use Rattle.sq_engine.proofs.engine.Engine.set_out.Goals as goal

pub invariant_of-self-2 : goal.invariant_of-self-2
invariant_of-self-2 c =
    let inside = c.self.inside in
    let due = c.if-not-make_due.ensures in
    let plan = c.with_move-plan.result.0 in
    let events =
    c.with_move-plan.ensures.events
    ∙ ap (λ (p : PlanValue). inside.jobs.events ++ MovesTo p ∷ []) (sym c.with_move-plan.ensures.plan) in (
      c.self.invariant.0,
      due.set_up,
      due_here inside plan c.args.limit c.make_due.new.opening (at_value c.make_due.new.at) due.due due.set_up due.at
          (subst EndsMove (sym c.self.view_is) c.requires) c.self.invariant.2 c.begin_move.new.self
          (adds_move plan inside.jobs c.begin_move.new.self c.with_move-plan.result.1.items events c.begin_move.ensures),
    )
