use Rattle.sq_node_model.proofs.Trees.{begun_apart}
use Rattle.sq_node_model.proofs.laws.begun_nodes_share_no_key.Goals as goal

pub returns : goal.returns
returns c = λ o status seg root n m is grown one other.
    begun_apart o is status grown root seg n m one.node other.node one.within other.within one.begun other.begun
