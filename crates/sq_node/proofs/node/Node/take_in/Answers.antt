use Rattle.std.proofs.Common.{ap, List, ◌++◌, ◌∙◌}
use Rattle.std.specs.Prelude.{option_to_list}
use Rattle.sq_node_model.specs.NodeValue.{ReceiptValue}
use Rattle.sq_node.specs.Steps.{RecvStep, LoadStep, CompleteStep, ResumeStep}
use Rattle.sq_node.specs.Turn.{Then}
use Rattle.sq_node.proofs.Turning.{does_then, recv_keeps, load_keeps, complete_keeps}
use Rattle.sq_node.proofs.node.Node.take_in.Goals as goal

pub returns-clause-turn : goal.returns-clause-turn
returns-clause-turn g c =
    let fabric = c.args.fabric.now in
    let received = c.step_recv-recv.new.self in
    let loaded = c.step_load-load.new.self in
    let completed = c.step_complete-complete.new.self in
    let new = c.step_resume-resume.new.self in
    does_then fabric RecvStep (Then LoadStep (Then CompleteStep ResumeStep)) c.args.self.now received new c.step_recv-recv.result c.and-2.result c.and-3.result c.step_recv-recv.ensures
    (does_then fabric LoadStep (Then CompleteStep ResumeStep) received loaded new c.step_load-load.result c.and.result c.and-2.result c.step_load-load.ensures.makes
    (does_then fabric CompleteStep ResumeStep loaded completed new c.step_complete-complete.result c.step_resume-resume.result.0 c.and.result c.step_complete-complete.ensures c.step_resume-resume.ensures.step c.and.ensures)
    c.and-2.ensures)
    c.and-3.ensures

pub returns-clause-receipt : goal.returns-clause-receipt
returns-clause-receipt g c =
    let received = c.step_recv-recv.new.self in
    let loaded = c.step_load-load.new.self in
    let completed = c.step_complete-complete.new.self in
    c.step_resume-resume.ensures.receipt
    ∙ ap (λ (rs : List ReceiptValue). rs ++ option_to_list c.step_resume-resume.result.1)
    (complete_keeps loaded c.step_complete-complete.result completed c.step_complete-complete.ensures.step
    ∙ load_keeps received c.step_load-load.result loaded c.step_load-load.ensures.makes.step
    ∙ recv_keeps c.args.self.now c.step_recv-recv.result received c.step_recv-recv.ensures.step)
