use Rattle.std.proofs.Common.{rules}
use Rattle.sq_gather.proofs.Joining.{joins_more, all_joined}
use Rattle.sq_gather.proofs.trees.join_seats.Goals as goal

pub loop-seat-preserved : goal.loop-seat-preserved
loop-seat-preserved c =
    joins_more c.args.trees.now c.args.first.now.items c.args.seats.items c.loop-seat.first.items c.loop-seat.seats.items c.pop.new.self.items c.loop-seat.invariant c.len-at.result c.index-trees-at.result
    c.index_mut.result.now c.in-Some.seat c.join.new.seat c.in-Some.ensures.items (search rules) c.requires.seats c.index-trees-at.is c.index_mut.ensures.value c.join.ensures.tree c.join.ensures.taken

pub returns-clause-joined : goal.returns-clause-joined
returns-clause-joined c = all_joined c.args.trees.now c.args.first.now.items c.args.seats.items c.loop-seat.first.items c.loop-seat.seats.items c.requires.first c.requires.seats c.loop-seat.invariant (search rules)
