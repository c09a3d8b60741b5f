use Rattle.std.proofs.Common.{◌≡◌, map}
use Rattle.sq_transition.specs.LeaderResults.{started_core}
use Rattle.sq_world.proofs.Each.{changed}
use Rattle.sq_world.proofs.state.leader.start_all.Given as goal

-- the partitions so far know that the move has started
abbrev pub invariant-loop-core : goal.invariant-loop-core
invariant-loop-core l = map (λ part. part.core) l.cores ≡ changed started_core l.core-index (map (λ part. part.core) l.initial.cores)
