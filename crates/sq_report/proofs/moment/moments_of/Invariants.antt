use Rattle.sq_report.proofs.Moments.{AreFirst}
use Rattle.sq_report.proofs.moment.moments_of.Given as goal

abbrev pub invariant-loop-event : goal.invariant-loop-event
invariant-loop-event l = AreFirst l.events l.moments.items l.now l.event-index
