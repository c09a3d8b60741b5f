use Rattle.sq_moves.proofs.plain.PlainTree.+nearest_live.Given as goal

abbrev pub decreases-nearest_live : goal.decreases-nearest_live
decreases-nearest_live l = l.node
