use Rattle.sq_node_model.proofs.CoreLoad.{loaded_is, core_loaded}
use Rattle.sq_node_model.proofs.laws.a_load_keeps_a_node.Goals as goal

pub returns : goal.returns
returns c = record {
  step = λ o i node new src known loads.
      loaded_is o i node.core new node.views node.sent node.received node.receipts src loads.note known loads.step loads.loadable;
  keeps = λ node new src loads o began is known runs h.
      core_loaded o began.stage node.core new node.views node.sent node.received node.receipts src loads.note known loads.step loads.loadable runs is h;
}
