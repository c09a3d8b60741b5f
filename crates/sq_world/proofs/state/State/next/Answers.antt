use Rattle.std.proofs.Common.{map, sym, ap, ◌∙◌, arith}
use Rattle.sq_model.specs.declared.answer.Answer.TheVariants.{Done, Refused}
use Rattle.sq_leader.specs.declared.leader.Leader.TheVariants.{Moving}
use Rattle.sq_exec.specs.CoreValue.{entered_core}
use Rattle.sq_transition.specs.WorldValue.{WorldValue}
use Rattle.sq_world.specs.Results.{answer_of}
use Rattle.sq_world.proofs.Cores.{told_all}
use Rattle.sq_world.proofs.Leading.{next_went, next_fails}
use Rattle.sq_world.proofs.state.State.next.Goals as goal

pub returns-in-Ok : goal.returns-in-Ok
returns-in-Ok c =
    let w = c.args.self.now in
    let opened = c.self.view_is ∙ c.take_leader.ensures.after in
    let entered = told_all (entered_core c.stage.result) c.self.inside.cores.len c.self.inside.cores.items c.enter_all.new.cores (omega (arith, c.enter_all.auto.cores, c.deref_mut.ensures.len)) c.deref_mut.ensures.value c.enter_all.ensures (ap (λ (v : WorldValue). v.cores) opened) ∙ ap (λ n. map (entered_core n) w.cores) c.stage.ensures.stage in
    (λ i. (answer_of (c.go_on.ensures.answer i), c.go_on.ensures.after i))
    ∙ (λ i. (Done, record (opened i) { leader = Moving c.in-Ok.moving; cores = entered i }))
    ∙ next_went w c.requires c.in-Moving.moving (sym c.in-Moving.ensures.leader) c.in-Ok.moving c.in-Ok.ensures.answer

pub returns-in-Err : goal.returns-in-Err
returns-in-Err c =
    let w = c.args.self.now in
    (λ i. (answer_of (c.stay.ensures.answer i), c.stay.ensures.after i))
    ∙ ap (λ (v : WorldValue). (Refused c.next_refusal.result, record v { leader = Moving (c.in-Err.refused).leader })) c.take_leader.ensures.after
    ∙ ap (λ refusal. (Refused refusal, record w { leader = Moving (c.in-Err.refused).leader })) c.next_refusal.ensures
    ∙ next_fails w c.requires c.in-Moving.moving (sym c.in-Moving.ensures.leader) c.in-Err.refused c.in-Err.ensures.answer
