use Rattle.sq_node_model.proofs.CoreServed.{resumed_is, core_resumed}
use Rattle.sq_node_model.proofs.laws.a_resume_keeps_a_node.Goals as goal

pub returns : goal.returns
returns c = record {
  step = λ node new resumed taken. resumed_is node.views node.sent node.received node.receipts node.core new resumed taken;
  keeps = λ node new resumed taken o began is known h.
      core_resumed node.views node.sent node.received node.receipts o is node.core new resumed known taken h;
}
