use Rattle.sq_moves.proofs.Nested.{node_above_covers}
use Rattle.sq_moves.proofs.node.Leaf.node_above.Goals as goal

pub invariant_of-result : goal.invariant_of-result
invariant_of-result c = (node_above_covers c.self.inside.0 c.args.levels c.self.invariant c.requires).node
