use Rattle.std.proofs.Common.{vec_len}
use Rattle.sq_gather.proofs.Closing.{Closes}
use Rattle.sq_gather.proofs.trees.close_each.Given as goal

-- the trees that are taken were closed with their seats
abbrev pub invariant-loop-tree : goal.invariant-loop-tree
invariant-loop-tree l = Closes l.initial.seats.items l.trees.items l.seats.items l.room.items

abbrev pub decreases-loop-tree : goal.decreases-loop-tree
decreases-loop-tree l = vec_len l.trees
