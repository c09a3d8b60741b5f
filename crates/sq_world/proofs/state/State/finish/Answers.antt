use Rattle.std.proofs.Common.{sym, ap, ◌∙◌}
use Rattle.sq_model.specs.declared.answer.Answer.TheVariants.{Done, Refused}
use Rattle.sq_model.specs.declared.answer.Refusal.TheVariants.{NotFinished}
use Rattle.sq_leader.specs.declared.leader.Leader.TheVariants.{Moving, Ended}
use Rattle.sq_transition.specs.WorldValue.{WorldValue}
use Rattle.sq_world.specs.Results.{answer_of}
use Rattle.sq_world.proofs.Leading.{finish_went, finish_fails}
use Rattle.sq_world.proofs.state.State.finish.Goals as goal

pub returns-in-Ok : goal.returns-in-Ok
returns-in-Ok c =
    let w = c.args.self.now in
    (λ i. (answer_of (c.go_on.ensures.answer i), c.go_on.ensures.after i))
    ∙ ap (λ (v : WorldValue). (Done, record v { leader = Ended c.in-Ok.ended })) c.take_leader.ensures.after
    ∙ finish_went w c.requires c.in-Moving.moving (sym c.in-Moving.ensures.leader) c.in-Ok.ended c.in-Ok.ensures.answer

pub returns-in-Err : goal.returns-in-Err
returns-in-Err c =
    let w = c.args.self.now in
    (λ i. (answer_of (c.stay.ensures.answer i), c.stay.ensures.after i))
    ∙ ap (λ (v : WorldValue). (Refused NotFinished, record v { leader = Moving (c.in-Err.refused).leader })) c.take_leader.ensures.after
    ∙ finish_fails w c.requires c.in-Moving.moving (sym c.in-Moving.ensures.leader) c.in-Err.refused c.in-Err.ensures.answer
