use Rattle.sq_gather.proofs.Filled.{begins_same, begins_more}
use Rattle.sq_gather.proofs.left.take_all.Goals as goal

pub loop-place-init : goal.loop-place-init
loop-place-init g c = begins_same _

pub loop-place-preserved : goal.loop-place-preserved
loop-place-preserved g c = begins_more _ _ _ c.loop-place.invariant c.push.ensures.grows
