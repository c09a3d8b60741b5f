use Rattle.std.proofs.Common.{inl, inr, ◌∙◌, refl, sym, ap, subst}
use Rattle.std.specs.Prelude.{IsSome}
use Rattle.sq_audit.specs.declared.job.Job.{Job}
use Rattle.sq_engine.specs.declared.event.Event.TheVariants.{Refuses}
use Rattle.sq_engine.specs.Open.{job_at, Adds}
use Rattle.sq_engine.specs.Clients.{Returned}
use Rattle.sq_engine.proofs.Jobs.{adds_after}
use Rattle.sq_engine.proofs.meeting.offer.Goals as goal

pub refuse-job-requires : goal.refuse-job-requires
refuse-job-requires g c = λ repeated.
    let jobs = c.args.jobs.now.unanswered in
    let back = c.in-Err.job in
    let refused = c.in-Err.ensures.refused in
    subst IsSome (sym (c.in-Err.ensures.err.jobs back.txn.id ∙ ap (λ (job : Job). job_at jobs job.txn.id) refused.same)) (refused.reason repeated)

pub returns-in-Ok : goal.returns-in-Ok
returns-in-Ok g c = inl (c.in-Ok.ensures.ok, refl)

pub returns-in-Err : goal.returns-in-Err
returns-in-Err g c =
    let jobs = c.args.jobs.now in
    let fault = c.in-Err.fault in
    let job = c.args.job in
    let refused = c.in-Err.ensures.refused in
    let back = refused.same in
    inr (
      fault,
      refused.partition,
      adds_after (Refuses job fault) jobs c.post_job.new.jobs c.refuse-job.new.self c.in-Err.ensures.err
          (subst (λ (j : Job). Adds (Refuses j fault) c.post_job.new.jobs c.refuse-job.new.self) back c.refuse-job.ensures.adds),
      subst (λ (j : Job). g.C.Client.Becomes c.args.client.now (Returned j fault) c.take_back.new.self)
          (c.refuse-job.ensures.same ∙ back) c.take_back.ensures,
    )
