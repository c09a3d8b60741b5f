use Rattle.std.proofs.Common.{ap, ◌∙◌}
use Rattle.sq_node.specs.NodeState.{NodeState}
use Rattle.sq_driver.specs.declared.gate.NodeStep.TheVariants.{Job, Request, Cut, Send, Recv, Load, Complete, Resume}
use Rattle.sq_driver.proofs.Parts.{step_part}
use Rattle.sq_refusals.proofs.hand_run.run_steps.Goals as goal

pub returns-clause-part : goal.returns-clause-part
returns-clause-part g c =
    let fabric = c.args.fabric.now in
    step_part fabric Resume c.step_complete-complete.new.self c.step_resume-resume.result.0 c.step_resume-resume.new.self c.step_resume-resume.ensures.step.step
    ∙ step_part fabric Complete c.step_load-load.new.self c.step_complete-complete.result c.step_complete-complete.new.self c.step_complete-complete.ensures.step
    ∙ step_part fabric Load c.step_recv-recv.new.self c.step_load-load.result c.step_load-load.new.self c.step_load-load.ensures.makes.step
    ∙ step_part fabric Recv c.step_send-send.new.self c.step_recv-recv.result c.step_recv-recv.new.self c.step_recv-recv.ensures.step
    ∙ step_part fabric Send c.step_cut-cut.new.self c.step_send-send.result c.step_send-send.new.self c.step_send-send.ensures.step
    ∙ step_part fabric Cut c.step_request-request.new.self c.step_cut-cut.result c.step_cut-cut.new.self c.step_cut-cut.ensures.step
    ∙ step_part fabric Request c.step_job-job.new.self c.step_request-request.result c.step_request-request.new.self c.step_request-request.ensures.step
    ∙ step_part fabric Job c.send_pending.new.self c.step_job-job.result.0 c.step_job-job.new.self c.step_job-job.ensures.step.step
    ∙ ap (λ (node : NodeState). node.core.part) c.send_pending.ensures
