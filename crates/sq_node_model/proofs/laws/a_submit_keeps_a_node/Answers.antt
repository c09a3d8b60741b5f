use Rattle.sq_node_model.proofs.CoreServed.{submitted_is, core_submitted}
use Rattle.sq_node_model.proofs.laws.a_submit_keeps_a_node.Goals as goal

pub returns : goal.returns
returns c = record {
  step = λ node new waits txn outcome taken.
      submitted_is node.views node.sent node.received node.receipts node.core new waits txn outcome taken;
  keeps = λ node new waits txn outcome taken o began is known h.
      core_submitted node.views node.sent node.received node.receipts o is node.core new waits txn outcome known taken h;
}
