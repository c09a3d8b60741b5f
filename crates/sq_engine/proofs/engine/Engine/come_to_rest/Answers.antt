use Rattle.std.proofs.Common.{sym, ◌∙◌, subst}
use Rattle.sq_engine.specs.Values.{at_value}
use Rattle.sq_engine.specs.Engine.{EndsMove}
use Rattle.sq_engine.proofs.Engines.{rest_here}
use Rattle.sq_engine.proofs.engine.Engine.come_to_rest.Goals as goal

pub invariant_of-self : goal.invariant_of-self
invariant_of-self c =
    let due = c.if-make_due.ensures in (
      c.self.invariant.0,
      due.set_up,
      rest_here c.self.inside c.in-Ok.plan c.of-limit.result c.make_due.new.opening (at_value c.make_due.new.at) due.due due.set_up due.at
          (subst EndsMove (sym c.self.view_is) c.requires) c.self.invariant.2 (c.in-Ok.ensures.cases ∙ c.new_plan.ensures.plan),
    )
