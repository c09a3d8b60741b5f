use Rattle.sq_gather.proofs.Filled.{grow_same, grow_more}
use Rattle.sq_gather.proofs.left.add_each.Goals as goal

pub loop-to-init : goal.loop-to-init
loop-to-init c = grow_same _

pub loop-to-preserved : goal.loop-to-preserved
loop-to-preserved c = grow_more _ _ _ c.loop-to.invariant c.add_job.ensures
