use Rattle.std.proofs.Common.{refl}
use Rattle.sq_node_model.specs.NodeValue.{put}
use Rattle.sq_node_model.proofs.CoreBegun.{begun_node_is, core_begun}
use Rattle.sq_node_model.proofs.laws.a_begin_keeps_a_node.Goals as goal

pub returns : goal.returns
returns c = record {
  step = λ o i node word segment is wins.
      begun_node_is o i is node.core node.views (put word.seg word.view node.views) node.sent node.received node.receipts
      word.seg word.node word.pull word.view segment wins.core wins.there wins.won (λ k. refl);
  keeps = λ o began node word is wins h.
      core_begun o began.stage is node.core node.views (put word.seg word.view node.views) node.sent node.received node.receipts
      word.seg word.node word.pull word.view wins.segment wins.core wins.moves.there wins.won (λ k. refl) wins.moves.source wins.moves.runs wins.one h;
}
