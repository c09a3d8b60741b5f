use Rattle.sq_node_model.specs.BeganWith.{BeginsWith}
use Rattle.sq_gather.proofs.left.take_all.Given as goal

-- the jobs only grow
abbrev pub invariant-loop-place : goal.invariant-loop-place
invariant-loop-place g l = BeginsWith l.initial.jobs.items l.jobs.items
