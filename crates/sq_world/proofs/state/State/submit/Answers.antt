use Rattle.std.proofs.Common.{map, set, sym, ap, ◌∙◌, subst, inl}
use Rattle.sq_model.specs.declared.step.Step.TheVariants.{Submit}
use Rattle.sq_model.specs.declared.answer.Answer.TheVariants.{Refused}
use Rattle.sq_transition.specs.WorldValue.{WorldValue}
use Rattle.sq_transition.specs.SubmitResults.{submitted, submit_refused, submit_result}
use Rattle.sq_transition.specs.Transition.{IsResult}
use Rattle.sq_world.proofs.Cores.{core_of}
use Rattle.sq_world.proofs.Serves.{submit_done, submit_fails}
use Rattle.sq_world.proofs.state.State.submit.Goals as goal

pub returns-in-Ok : goal.returns-in-Ok
returns-in-Ok c =
    let w = c.args.self.now in
    let parts = map core_of (set c.self.inside.cores.items c.args.part c.submit.new.self) in
    let txn = c.args.txn.now in
    inl (ap (λ (v : WorldValue). (c.submitted.result, record v { cores = parts })) c.self.view_is
    ∙ submit_done w c.self.inside.cores.items c.args.part c.index_mut.result.now c.in_ok-check_part.field-0 (ap (λ (v : WorldValue). v.cores) c.self.view_is) c.requires c.in_ok-check_part.ensures c.index_mut.ensures.value
    txn c.in-Ok.outcome c.submit.new.self c.submitted.result c.in-Ok.ensures.refused c.in-Ok.ensures.ok (c.submitted.ensures ∙ ap (λ (v : WorldValue). submitted (record v { cores = parts }) txn c.in-Ok.outcome) c.self.view_is))

pub returns-in-Err : goal.returns-in-Err
returns-in-Err c =
    let w = c.args.self.now in
    let parts = map core_of (set c.self.inside.cores.items c.args.part c.submit.new.self) in
    let txn = c.args.txn.now in
    rw c.submit_refusal.ensures
    (subst (λ (v : WorldValue). IsResult (Submit c.args.part txn) w (submit_result w c.args.part txn) (Refused (submit_refused c.in-Err.fault)) (record v { cores = parts })) (sym c.self.view_is)
    (submit_fails w c.self.inside.cores.items c.args.part c.index_mut.result.now c.in_ok-check_part.field-0 (ap (λ (v : WorldValue). v.cores) c.self.view_is) c.requires c.in_ok-check_part.ensures c.index_mut.ensures.value
    txn c.in-Err.fault c.submit.new.self c.in-Err.ensures.refused c.in-Err.ensures.memory c.in-Err.ensures.err))
