use Rattle.std.proofs.Common.{map, set, sym, ap, ◌∙◌, subst, inl}
use Rattle.sq_model.specs.declared.step.Step.TheVariants.{Resume}
use Rattle.sq_model.specs.declared.answer.Answer.TheVariants.{Resumed, Refused}
use Rattle.sq_transition.specs.WorldValue.{WorldValue}
use Rattle.sq_transition.specs.SubmitResults.{resume_refused, resume_result}
use Rattle.sq_transition.specs.Transition.{IsResult}
use Rattle.sq_world.proofs.Cores.{core_of}
use Rattle.sq_world.proofs.Serves.{resume_done, resume_runs, resume_fails}
use Rattle.sq_world.proofs.state.State.resume.Goals as goal
use Rattle.sq_world.proofs.state.State.resume.Goals.{in-Ok+in-Done, in-Err}

pub unreachable-requires : goal.unreachable-requires
unreachable-requires c =
    let w = c.args.self.now in
    resume_runs w c.self.inside.cores.items c.args.part c.index_mut.result.now c.in_ok-check_part.field-0 (ap (λ (v : WorldValue). v.cores) c.self.view_is) c.requires c.in_ok-check_part.ensures c.index_mut.ensures.value c.in-Ok.field-0 c.resume.new.self.core c.in-Ok.ensures.ok c.in_default.not-Done

pub returns : goal.returns
returns c =
    let w = c.args.self.now in
    let parts = map core_of (set c.self.inside.cores.items c.args.part c.resume.new.self) in
    elim c.match-resume.branch [
      | in-Ok+in-Done b ↦ rw b.result-is (inl
          (ap (λ (v : WorldValue). (Resumed b.in-Ok.field-0.txn b.in-Done.reply, record v { cores = parts })) c.self.view_is
          ∙ resume_done w c.self.inside.cores.items c.args.part c.index_mut.result.now c.in_ok-check_part.field-0 (ap (λ (v : WorldValue). v.cores) c.self.view_is) c.requires c.in_ok-check_part.ensures c.index_mut.ensures.value b.in-Ok.field-0 b.in-Done.reply c.resume.new.self b.in-Ok.ensures.ok b.in-Done.is))
      | in-Err b ↦ rw (b.result-is, b.resume_refusal.ensures)
          (subst (λ (v : WorldValue). IsResult (Resume c.args.part) w (resume_result w c.args.part) (Refused (resume_refused b.in-Err.fault)) (record v { cores = parts })) (sym c.self.view_is)
          (resume_fails w c.self.inside.cores.items c.args.part c.index_mut.result.now c.in_ok-check_part.field-0 (ap (λ (v : WorldValue). v.cores) c.self.view_is) c.requires c.in_ok-check_part.ensures c.index_mut.ensures.value b.in-Err.fault c.resume.new.self b.in-Err.ensures.refused b.in-Err.ensures.err))
    ]
