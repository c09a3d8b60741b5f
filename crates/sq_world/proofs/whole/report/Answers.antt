use Rattle.sq_world.proofs.Drafting.{twice}
use Rattle.sq_world.proofs.whole.report.Goals as goal

pub loop-part-preserved : goal.loop-part-preserved
loop-part-preserved c = twice _ _ _ c.loop-part.invariant c.in_ok-report_from.ensures
