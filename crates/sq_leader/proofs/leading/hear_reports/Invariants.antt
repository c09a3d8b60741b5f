use Rattle.sq_leader.proofs.LedStages.{AreHeard}
use Rattle.sq_leader.proofs.leading.hear_reports.Given as goal

-- of the partitions so far those have reported that may
abbrev pub invariant-loop-part : goal.invariant-loop-part
invariant-loop-part l = AreHeard l.opening l.initial.moving.stage l.whole l.part l.moving
