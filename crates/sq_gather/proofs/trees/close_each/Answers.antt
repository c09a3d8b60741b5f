use Rattle.std.proofs.Common.{◌≡◌, ◌+◌, length, arith, rules}
use Rattle.sq_gather.proofs.Closing.{last_stands, closes_more, all_closed}
use Rattle.sq_gather.proofs.trees.close_each.Goals as goal

pub loop-tree-preserved : goal.loop-tree-preserved
loop-tree-preserved c =
    let at = c.loop-tree in
    let stands = last_stands c.args.seats.items at.trees.items at.seats.items at.room.items at.invariant c.pop.new.self.items c.pop-in-Some.new.self.items c.in-Some.tree c.in-Some-pop.seat c.in-Some.ensures.items c.in-Some-pop.ensures.items in
    let given : c.in-Some-pop.seat.view.given ≡ c.in-Some-pop.seat.view.taken + 0 = c.requires.whole (length c.pop.new.self.items) c.in-Some-pop.seat stands in
    closes_more c.args.seats.items at.trees.items at.seats.items at.room.items at.invariant c.pop.new.self.items c.pop-in-Some.new.self.items c.in-Some.tree c.in-Some-pop.seat c.in-Some.ensures.items c.in-Some-pop.ensures.items
    c.len-at.result c.close.result (search rules) (c.close.ensures.all (c.requires.first (length c.pop.new.self.items) c.in-Some-pop.seat stands) (omega (arith, given)))

pub returns : goal.returns
returns c = all_closed c.args.seats.items c.loop-tree.trees.items c.loop-tree.seats.items c.loop-tree.room.items c.loop-tree.invariant (search rules)
