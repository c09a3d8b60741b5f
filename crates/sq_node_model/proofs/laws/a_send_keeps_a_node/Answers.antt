use Rattle.std.proofs.Common.{[], ◌∷◌, ◌++◌, refl}
use Rattle.sq_node_model.specs.NodeValue.{put}
use Rattle.sq_node_model.proofs.CoreLinks.{sent_is, core_sent}
use Rattle.sq_node_model.proofs.laws.a_send_keeps_a_node.Goals as goal

pub returns : goal.returns
returns c = record {
  step = λ node dst chunk full.
      sent_is node.core node.views node.sent (put dst (node.sent dst ++ chunk ∷ []) node.sent) node.received node.receipts
      dst chunk full (λ k. refl);
  keeps = λ node dst chunk full o began h.
      core_sent o node.core node.views node.sent (put dst (node.sent dst ++ chunk ∷ []) node.sent) node.received node.receipts
      dst chunk full (λ k. refl) h;
}
