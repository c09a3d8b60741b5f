use Rattle.std.proofs.Common.{◌-◌}
use Rattle.sq_moves.specs.Status.{covering}
use Rattle.sq_moves.specs.Tree.{status_at}
use Rattle.sq_moves.proofs.Covering.{LooksFrom}
use Rattle.sq_moves.proofs.plain.PlainTree.covering.Given as goal

abbrev pub invariant-loop-leaf : goal.invariant-loop-leaf
invariant-loop-leaf l = LooksFrom (status_at l.self) l.leaf l.node (covering (status_at l.self) l.leaf)

abbrev pub decreases-loop-leaf : goal.decreases-loop-leaf
decreases-loop-leaf l = 64 - l.node
