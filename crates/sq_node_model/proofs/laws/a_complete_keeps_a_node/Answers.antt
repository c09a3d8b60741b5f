use Rattle.std.proofs.Common.{refl}
use Rattle.sq_node_model.specs.NodeValue.{put}
use Rattle.sq_node_model.proofs.CoreBegun.{completed_node_is, core_completed}
use Rattle.sq_node_model.proofs.laws.a_complete_keeps_a_node.Goals as goal

pub returns : goal.returns
returns c = record {
  step = λ node word won.
      completed_node_is node.core node.views (put word.seg word.view node.views) node.sent node.received node.receipts
      word.seg word.node word.pull word.view won (λ k. refl);
  keeps = λ node word whole won o began h.
      core_completed o node.core node.views (put word.seg word.view node.views) node.sent node.received node.receipts
      word.seg word.node word.pull word.view whole won (λ k. refl) h;
}
