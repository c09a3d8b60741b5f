use Rattle.std.proofs.Common.{None, vec_len}
use Rattle.sq_gather.specs.Ends.{with_destination}
use Rattle.sq_gather.proofs.Putting.{AreLeft}
use Rattle.sq_gather.proofs.ends.put_destinations.Given as goal

-- the ends that are taken were put
abbrev pub invariant-loop-receiver : goal.invariant-loop-receiver
invariant-loop-receiver l = AreLeft with_destination None l.initial.recvs.items l.initial.inboxes.items l.initial.ends.items l.recvs.items l.inboxes.items l.ends.items

abbrev pub decreases-loop-receiver : goal.decreases-loop-receiver
decreases-loop-receiver l = vec_len l.recvs
