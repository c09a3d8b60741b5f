use Rattle.sq_gather.proofs.Filled.{grow_same, grow_more}
use Rattle.sq_gather.proofs.left.add_queued.Goals as goal

pub loop-queue-init : goal.loop-queue-init
loop-queue-init g c = grow_same _

pub loop-queue-preserved : goal.loop-queue-preserved
loop-queue-preserved g c = grow_more _ _ _ c.loop-queue.invariant c.add_queue.ensures
