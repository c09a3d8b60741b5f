use Rattle.std.proofs.Common.{ap, subst, rules}
use Rattle.std.specs.Prelude.{slice_set}
use Rattle.sq_gather.specs.Ends.{with_out_link, no_out_link}
use Rattle.sq_gather.proofs.Putting.{AreLeft, took, none_put, link_below, end_put}
use Rattle.sq_gather.proofs.ends.put_sources.Goals as goal

pub loop-sender-preserved-in_default-into_end : goal.loop-sender-preserved-in_default-into_end
loop-sender-preserved-in_default-into_end c = none_put (took c.loop-sender.invariant c.in-Some.ensures.items c.into_end.ensures c.in-Some-pop.ensures.items) c.in_default-into_end.is

pub index_mut-requires : goal.index_mut-requires
index_mut-requires c =
    let low = link_below (took c.loop-sender.invariant c.in-Some.ensures.items c.into_end.ensures c.in-Some-pop.ensures.items) c.requires.among _ c.in-Some-into_end.is in search rules

pub loop-sender-preserved : goal.loop-sender-preserved
loop-sender-preserved c =
    subst (AreLeft with_out_link no_out_link c.args.sends.items c.args.outs.items c.args.ends.now.items c.pop.new.self.items c.pop-in-Some.new.self.items)
    (ap (slice_set c.loop-sender.ends.items c.in-Some-into_end.field-0.link) (cc))
    (end_put (took c.loop-sender.invariant c.in-Some.ensures.items c.into_end.ensures c.in-Some-pop.ensures.items) c.requires.among _ c.in-Some-into_end.is c.requires.apart _ c.index_mut.ensures.value)
