use Rattle.std.proofs.Common.{None, sym, ap, subst, rules}
use Rattle.std.specs.Prelude.{slice_set}
use Rattle.sq_gather.specs.Ends.{with_destination}
use Rattle.sq_gather.proofs.Putting.{AreLeft, took, none_put, link_below, end_put}
use Rattle.sq_gather.proofs.ends.put_destinations.Goals as goal

pub loop-receiver-preserved-in_default-into_end : goal.loop-receiver-preserved-in_default-into_end
loop-receiver-preserved-in_default-into_end c = none_put (took c.loop-receiver.invariant c.in-Some.ensures.items c.into_end.ensures c.in-Some-pop.ensures.items) c.in_default-into_end.is

pub index_mut-requires : goal.index_mut-requires
index_mut-requires c =
    let low = link_below (took c.loop-receiver.invariant c.in-Some.ensures.items c.into_end.ensures c.in-Some-pop.ensures.items) c.requires.among _ c.in-Some-into_end.is in search rules

pub loop-receiver-preserved : goal.loop-receiver-preserved
loop-receiver-preserved c =
    subst (AreLeft with_destination None c.args.recvs.items c.args.inboxes.items c.args.ends.now.items c.pop.new.self.items c.pop-in-Some.new.self.items)
    (ap (slice_set c.loop-receiver.ends.items c.in-Some-into_end.field-0.link) (sym c.put_destination.ensures))
    (end_put (took c.loop-receiver.invariant c.in-Some.ensures.items c.into_end.ensures c.in-Some-pop.ensures.items) c.requires.among _ c.in-Some-into_end.is c.requires.apart _ c.index_mut.ensures.value)
