use Rattle.sq_world.proofs.Drafting.{twice}
use Rattle.sq_world.proofs.whole.move_segments.Goals as goal

pub loop-moving-preserved : goal.loop-moving-preserved
loop-moving-preserved c = twice _ _ _ c.loop-moving.invariant c.in_ok-move_in_stage.ensures
