use Rattle.std.proofs.Common.{Some}
use Rattle.sq_node.proofs.Settles.{put_still}
use Rattle.sq_node.proofs.node.Node.recv_from.Goals as goal

pub invariant_of-self-2 : goal.invariant_of-self-2
invariant_of-self-2 g c =
    let inside = c.self.inside in
    put_still _ inside.core.core c.put_inbox.new.self.core c.args.src (Some c.in-Some.chunk) c.put_inbox.result inside.seats.items inside.to_complete.items inside.complete.items
    c.put_inbox.ensures.ok c.put_inbox.ensures.err c.self.invariant
