use Rattle.sq_node.specs.Steps.{Receives, HasNoneToReceive}
use Rattle.sq_node.specs.declared.stepped.Stepped.TheVariants.{Did}
use Rattle.sq_node.proofs.Told.{did_first, recv_told}
use Rattle.sq_node.proofs.node.Node.step_recv.Goals as goal

pub returns-then-recv_from : goal.returns-then-recv_from
returns-then-recv_from g c =
    let so_far = c.loop-number.invariant in
    recv_told c.args.fabric.now c.args.self.now Did _ c.requires (did_first Receives (HasNoneToReceive c.args.self.now) _ _ _ _ _ so_far.same c.new.ensures so_far.none c.if-recv_from.ensures)
