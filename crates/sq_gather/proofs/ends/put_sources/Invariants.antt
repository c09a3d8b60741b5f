use Rattle.std.proofs.Common.{vec_len}
use Rattle.sq_gather.specs.Ends.{with_out_link, no_out_link}
use Rattle.sq_gather.proofs.Putting.{AreLeft}
use Rattle.sq_gather.proofs.ends.put_sources.Given as goal

-- the ends that are taken were put
abbrev pub invariant-loop-sender : goal.invariant-loop-sender
invariant-loop-sender l = AreLeft with_out_link no_out_link l.initial.sends.items l.initial.outs.items l.initial.ends.items l.sends.items l.outs.items l.ends.items

abbrev pub decreases-loop-sender : goal.decreases-loop-sender
decreases-loop-sender l = vec_len l.sends
