use Rattle.sq_node_model.proofs.CoreCut.{cut_is, core_cut}
use Rattle.sq_node_model.proofs.laws.a_cut_keeps_a_node.Goals as goal

pub returns : goal.returns
returns c = record {
  step = λ node new dst note cuts. cut_is node.core new node.views node.sent node.received node.receipts dst note cuts;
  keeps = λ o began node new dst note is cuts h.
      core_cut node.core new node.views node.sent node.received node.receipts dst note cuts o is h;
}
