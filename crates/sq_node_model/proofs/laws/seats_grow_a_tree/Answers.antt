use Rattle.sq_node_model.proofs.Trees.{grown_tree}
use Rattle.sq_node_model.proofs.laws.seats_grow_a_tree.Goals as goal

pub returns : goal.returns
returns c = grown_tree
