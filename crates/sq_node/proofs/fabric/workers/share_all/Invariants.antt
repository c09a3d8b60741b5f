use Rattle.sq_node.proofs.Shares.{Shares}
use Rattle.sq_node.proofs.fabric.workers.share_all.Given as goal

-- a seat of each tree so far is shared out
abbrev pub invariant-loop-at : goal.invariant-loop-at
invariant-loop-at l = Shares l.trees l.initial.seats.items l.seats.items l.shared.items l.at
