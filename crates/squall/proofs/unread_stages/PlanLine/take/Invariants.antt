use Rattle.std.proofs.Common.{length}
use Rattle.squall.proofs.unread_stages.PlanLine.take.Given as goal

abbrev pub decreases-loop-end : goal.decreases-loop-end
decreases-loop-end g l = length l.rest
