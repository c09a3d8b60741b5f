use Rattle.sq_node.specs.Steps.{SendsChunk, HasNoneToSend}
use Rattle.sq_node.specs.declared.stepped.Stepped.TheVariants.{Did}
use Rattle.sq_node.proofs.Told.{did_first, send_told}
use Rattle.sq_node.proofs.node.Node.step_send.Goals as goal

pub returns-then-send_to : goal.returns-then-send_to
returns-then-send_to g c =
    let so_far = c.loop-number.invariant in
    send_told c.args.fabric.now c.args.self.now Did _ c.requires (did_first SendsChunk (HasNoneToSend c.args.fabric.now c.args.self.now) _ _ _ _ _ so_far.same c.new.ensures so_far.none c.if-send_to.ensures)
