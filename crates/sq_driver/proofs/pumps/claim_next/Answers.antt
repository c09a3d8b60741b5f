use Rattle.sq_driver.proofs.Pumping.{turned}
use Rattle.sq_driver.proofs.pumps.claim_next.Goals as goal

pub returns-in-Ok-Won : goal.returns-in-Ok-Won
returns-in-Ok-Won g c =
    turned c.args.fabric.now c.shared.result.recon.now c.shared.result.trees.now c.args.pump.now c.turn.new.self c.turn.result c.shared.ensures.recon c.shared.ensures.trees
    c.turn.ensures.turned c.turn.ensures.err c.requires c.turn.ensures.seats c.turn.ensures.work

pub returns-in-Ok-Nothing : goal.returns-in-Ok-Nothing
returns-in-Ok-Nothing g c =
    turned c.args.fabric.now c.shared.result.recon.now c.shared.result.trees.now c.args.pump.now c.turn.new.self c.turn.result c.shared.ensures.recon c.shared.ensures.trees
    c.turn.ensures.turned c.turn.ensures.err c.requires c.turn.ensures.seats c.turn.ensures.work
