use Rattle.std.proofs.Common.{sym, ap, ◌∙◌, arith}
use Rattle.sq_model.specs.declared.answer.Answer.TheVariants.{Done, Refused}
use Rattle.sq_model.specs.declared.answer.Refusal.TheVariants.{NotPrepared}
use Rattle.sq_leader.specs.declared.leader.Leader.TheVariants.{Preparing, Moving}
use Rattle.sq_transition.specs.WorldValue.{WorldValue}
use Rattle.sq_transition.specs.LeaderResults.{started_core}
use Rattle.sq_world.specs.Results.{answer_of}
use Rattle.sq_world.proofs.Cores.{told_all}
use Rattle.sq_world.proofs.Leading.{start_went, start_refused}
use Rattle.sq_world.proofs.state.State.start.Goals as goal

pub returns-in-Ok : goal.returns-in-Ok
returns-in-Ok c =
    let w = c.args.self.now in
    let opened = c.self.view_is ∙ c.take_leader.ensures.after in
    let started = told_all started_core c.self.inside.cores.len c.self.inside.cores.items c.start_all.new.cores (omega (arith, c.start_all.auto.cores, c.deref_mut.ensures.len)) c.deref_mut.ensures.value c.start_all.ensures (ap (λ (v : WorldValue). v.cores) opened) in
    (λ i. (answer_of (c.go_on.ensures.answer i), c.go_on.ensures.after i))
    ∙ (λ i. (Done, record (opened i) { leader = Moving c.in-Ok.moving; cores = started i }))
    ∙ start_went w c.requires c.in-Preparing.preparing c.in-Ok.moving (sym c.in-Preparing.ensures.leader) c.in-Ok.ensures

pub returns-in-Err : goal.returns-in-Err
returns-in-Err c =
    let w = c.args.self.now in
    (λ i. (answer_of (c.stay-in-Err.ensures.answer i), c.stay-in-Err.ensures.after i))
    ∙ ap (λ (v : WorldValue). (Refused NotPrepared, record v { leader = Preparing c.in-Err.refused.leader })) c.take_leader.ensures.after
    ∙ start_refused w c.requires c.in-Preparing.preparing c.in-Err.refused (sym c.in-Preparing.ensures.leader) c.in-Err.ensures
