use Rattle.sq_node_model.proofs.CoreBegun.{core_looked}
use Rattle.sq_node_model.proofs.laws.a_look_keeps_a_node.Goals as goal

pub returns : goal.returns
returns c = λ node now same o began h.
    core_looked o node.core node.views now node.sent node.received node.receipts same.begun same.completed h
