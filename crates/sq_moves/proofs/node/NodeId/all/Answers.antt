use Rattle.std.proofs.Common.{arith}
use Rattle.sq_moves.proofs.node.NodeId.all.Goals as goal

pub returns : goal.returns
returns c = λ i within. c.loop-index.invariant.numbered i (omega (arith, c.loop-index.invariant.long))
