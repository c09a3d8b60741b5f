use Rattle.sq_world.proofs.Drafting.{twice}
use Rattle.sq_world.proofs.whole.make_stages.Goals as goal

pub loop-stage-preserved : goal.loop-stage-preserved
loop-stage-preserved c = twice _ _ _ c.loop-stage.invariant c.in_ok-make_stage.ensures
