use Rattle.std.proofs.Common.{ap, ◌∙◌}
use Rattle.std.proofs.lemmas.Result.{err_from_is_err_and}
use Rattle.sq_plan.specs.PlanValue.{PlanValue}
use Rattle.sq_live.proofs.LiveRuns.{read_both, read_no_header, read_no_jobs}
use Rattle.sq_live.proofs.input.read_input.Goals as goal

pub returns-in_err-opening-clause-fault : goal.returns-in_err-opening-clause-fault
returns-in_err-opening-clause-fault g c =
    let p = err_from_is_err_and c.from_residual.result c.from_residual.ensures.1 in
    rw (p.1, p.2) (read_no_header _ _ _ _ c.largest-schema.ensures c.in_err-opening.ensures.header)

pub returns-in_err-jobs-clause-fault : goal.returns-in_err-jobs-clause-fault
returns-in_err-jobs-clause-fault g c =
    let p = err_from_is_err_and c.from_residual-in_err-jobs.result c.from_residual-in_err-jobs.ensures.1 in
    rw (p.1, p.2) (read_no_jobs _ _ _ _ _ _ c.largest-schema.ensures (c.parts.ensures.parts ∙ ap (λ (plan : PlanValue). plan.parts) c.old_plan.ensures.plan) c.in_ok-opening.ensures.header c.in_err-jobs.ensures.fault)

pub returns-clause-input : goal.returns-clause-input
returns-clause-input g c =
    read_both _ _ _ _ _ _ c.largest-schema.ensures (c.parts.ensures.parts ∙ ap (λ (plan : PlanValue). plan.parts) c.old_plan.ensures.plan) c.in_ok-opening.ensures.header c.in_ok-jobs.ensures.jobs
