use Rattle.std.proofs.Common.{subst, ap, List, ◌++◌, ◌∙◌}
use Rattle.std.specs.Prelude.{option_to_list}
use Rattle.sq_node_model.specs.NodeValue.{ReceiptValue}
use Rattle.sq_node.specs.NodeState.{NodeState}
use Rattle.sq_node.specs.Holds.{DoesAndKeeps}
use Rattle.sq_node.specs.Steps.{JobStep, RequestStep, CutStep, SendStep}
use Rattle.sq_node.specs.Turn.{Then, TakesIn, TurnStep}
use Rattle.sq_node.proofs.Turning.{does_then, receipts, request_keeps, cut_keeps, send_keeps}
use Rattle.sq_node.proofs.node.Node.turn.Goals as goal

pub returns-clause-turn : goal.returns-clause-turn
returns-clause-turn g c =
    let fabric = c.args.fabric.now in
    let first = c.send_pending.new.self in
    let served = c.step_job-served.new.self in
    let asked = c.step_request-request.new.self in
    let cut = c.step_cut-cut.new.self in
    let sent = c.step_send-send.new.self in
    let new = c.take_in-taken.new.self in
    let cuts : DoesAndKeeps fabric CutStep asked c.step_cut-cut.result cut = record {
      step = c.step_cut-cut.ensures.step;
      of = c.step_cut-cut.ensures.of fabric c.step_request-request.ensures.of;
      holds = c.step_cut-cut.ensures.holds;
    } in
    subst (λ (node : NodeState). DoesAndKeeps fabric (TurnStep fabric) node c.and-stepped.result new) c.send_pending.ensures
    (does_then fabric JobStep (Then RequestStep (Then CutStep (Then (SendStep fabric) TakesIn))) first served new c.step_job-served.result.0 c.and-3.result c.and-stepped.result c.step_job-served.ensures.step
    (does_then fabric RequestStep (Then CutStep (Then (SendStep fabric) TakesIn)) served asked new c.step_request-request.result c.and-2.result c.and-3.result c.step_request-request.ensures
    (does_then fabric CutStep (Then (SendStep fabric) TakesIn) asked cut new c.step_cut-cut.result c.and.result c.and-2.result cuts
    (does_then fabric (SendStep fabric) TakesIn cut sent new c.step_send-send.result c.take_in-taken.result.0 c.and.result c.step_send-send.ensures c.take_in-taken.ensures.turn c.and.ensures)
    c.and-2.ensures)
    c.and-3.ensures)
    c.and-stepped.ensures)

pub returns-clause-receipts : goal.returns-clause-receipts
returns-clause-receipts g c =
    let fabric = c.args.fabric.now in
    let served = c.step_job-served.new.self in
    let asked = c.step_request-request.new.self in
    let cut = c.step_cut-cut.new.self in
    let sent = c.step_send-send.new.self in
    c.take_in-taken.ensures.receipt
    ∙ ap (λ (rs : List ReceiptValue). rs ++ option_to_list c.take_in-taken.result.1)
    (send_keeps fabric cut c.step_send-send.result sent c.step_send-send.ensures.step
    ∙ cut_keeps asked c.step_cut-cut.result cut c.step_cut-cut.ensures.step
    ∙ request_keeps served c.step_request-request.result asked c.step_request-request.ensures.step
    ∙ c.step_job-served.ensures.receipt
    ∙ ap (λ (rs : List ReceiptValue). rs ++ option_to_list c.step_job-served.result.1) (ap receipts c.send_pending.ensures))
