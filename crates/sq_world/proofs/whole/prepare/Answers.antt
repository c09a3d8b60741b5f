use Rattle.sq_world.proofs.Drafting.{twice}
use Rattle.sq_world.proofs.whole.prepare.Goals as goal

pub loop-part-preserved : goal.loop-part-preserved
loop-part-preserved c = twice _ _ _ c.loop-part.invariant c.in_ok-make.ensures.goes_on
