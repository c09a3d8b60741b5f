use Rattle.std.proofs.Common.{ℕ, List, filter, not, sym, ap, ◌∙◌, subst}
use Rattle.sq_audit.specs.declared.job.Job.{Job}
use Rattle.sq_audit.specs.ById.{AreById, is_listed}
use Rattle.sq_audit.proofs.folding.finish.Goals as goal

pub leave_unanswered-requires : goal.leave_unanswered-requires
leave_unanswered-requires c = subst AreById (sym c.deref.ensures.value) c.requires.by_id

pub returns-clause-jobs : goal.returns-clause-jobs
returns-clause-jobs c =
    c.leave_unanswered.ensures ∙ ap (λ (ids : List (ℕ × ℕ)). filter (λ (job : Job). not (is_listed ids job)) c.args.jobs.items) c.deref.ensures.value
