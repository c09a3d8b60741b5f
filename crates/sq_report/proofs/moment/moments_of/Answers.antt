use Rattle.std.proofs.Common.{arith}
use Rattle.std.proofs.lemmas.Option.{slice_get-get_or}
use Rattle.sq_report.proofs.Moments.{goes_next, are_all}
use Rattle.sq_report.proofs.moment.moments_of.Goals as goal

pub loop-event-preserved : goal.loop-event-preserved
loop-event-preserved c =
    goes_next c.args.events.now c.loop-event.moments.items c.loop-event.now c.loop-event.event-index _ _ _ c.loop-event.invariant
    (slice_get-get_or c.args.events.now c.loop-event.event-index _ c.loop-event-test.true) c.after-now.ensures c.in_ok-push.ensures.items

pub returns : goal.returns
returns c = are_all _ _ _ _ c.loop-event.invariant (omega (arith, c.loop-event-test.false))
