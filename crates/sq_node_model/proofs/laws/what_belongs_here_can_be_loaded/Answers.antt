use Rattle.std.proofs.Common.{Option, subst}
use Rattle.std.specs.Prelude.{IfSome}
use Rattle.sq_store.specs.ChunkValue.{ChunkValue, IsChunk}
use Rattle.sq_node_model.proofs.CoreRefused.{came_loaded}
use Rattle.sq_node_model.proofs.laws.what_belongs_here_can_be_loaded.Goals as goal

pub returns : goal.returns
returns c = λ node src sound cannot o began is known h chunk came arrived.
    came_loaded o is node.core node.views node.sent node.received node.receipts known h src chunk
    (subst (λ (found : Option ChunkValue). IfSome found IsChunk) came sound) arrived came cannot
