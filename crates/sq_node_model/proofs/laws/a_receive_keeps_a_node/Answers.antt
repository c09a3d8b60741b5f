use Rattle.std.proofs.Common.{[], ◌∷◌, ◌++◌, refl}
use Rattle.sq_node_model.specs.NodeValue.{put}
use Rattle.sq_node_model.proofs.CoreLinks.{received_is, core_received}
use Rattle.sq_node_model.proofs.laws.a_receive_keeps_a_node.Goals as goal

pub returns : goal.returns
returns c = record {
  step = λ node src chunk below.
      received_is node.core node.views node.sent node.received (put src (node.received src ++ chunk ∷ []) node.received) node.receipts
      src chunk below (λ k. refl);
  keeps = λ node src chunk below empty o began h.
      core_received o node.core node.views node.sent node.received (put src (node.received src ++ chunk ∷ []) node.received) node.receipts
      src chunk below empty (λ k. refl) h;
}
