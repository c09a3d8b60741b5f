use Rattle.std.proofs.Common.{map, vec_len}
use Rattle.sq_gather.specs.Left.{OnlyGrow}
use Rattle.sq_gather.proofs.left.add_queued.Given as goal

-- the jobs only grow
abbrev pub invariant-loop-queue : goal.invariant-loop-queue
invariant-loop-queue g l = OnlyGrow (map (λ jobs. jobs.items) l.initial.left.items) (map (λ jobs. jobs.items) l.left.items)

abbrev pub decreases-loop-queue : goal.decreases-loop-queue
decreases-loop-queue g l = vec_len l.queues
