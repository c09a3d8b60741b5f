use Rattle.std.proofs.Common.{sym, ◌∙◌}
use Rattle.sq_world.proofs.Drafting.{goes_on}
use Rattle.sq_world.proofs.draft.Draft.make.Goals as goal

pub returns-clause-goes_on : goal.returns-clause-goes_on
returns-clause-goes_on c =
    goes_on c.args.self.now _ c.args.step c.step.result c.step-answer.result c.step.ensures.step c.step.ensures.fit
    (sym c.is_refused.ensures ∙ c.if-is_refused.false) c.step-answer.ensures.headline c.in_ok-write_step.ensures
