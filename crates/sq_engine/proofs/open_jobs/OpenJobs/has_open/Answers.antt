use Rattle.std.proofs.Common.{◌≡◌, Some, sym, ap, ◌∙◌}
use Rattle.sq_schema.proofs.Equal.{txn_same}
use Rattle.sq_audit.specs.declared.job.Job.{Job}
use Rattle.sq_engine.specs.Open.{OpenJobsValue, job_at}
use Rattle.sq_engine.proofs.open_jobs.OpenJobs.has_open.Goals as goal

pub returns-in-Some : goal.returns-in-Some
returns-in-Some c =
    let txn = c.args.txn.now in
    let job : Job = c.in-Some.job.now in
    let there : job_at c.args.self.now.unanswered txn.id ≡ Some job =
    ap (λ (jobs : OpenJobsValue). job_at jobs.unanswered txn.id) (sym c.self.view_is)
    ∙ ap (job_at c.self.inside.unanswered.entries) (sym c.id.ensures) ∙ sym c.in-Some.ensures.value in
    let same = txn_same job.txn txn in (
      (λ e. (job, there, same.0 (sym c.eq.ensures ∙ e))),
      (λ is.
          let one : is.0 ≡ job = cc (sym is.1 ∙ there) in
          c.eq.ensures ∙ same.1 (ap (λ (j : Job). j.txn) (sym one) ∙ is.2)),
    )
