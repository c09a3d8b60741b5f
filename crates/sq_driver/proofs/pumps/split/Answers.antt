use Rattle.sq_driver.specs.Laws.{pump_further}
use Rattle.sq_driver.proofs.Pumping.{split_once}
use Rattle.sq_driver.proofs.pumps.split.Goals as goal

pub loop-number-preserved : goal.loop-number-preserved
loop-number-preserved c =
    pump_further c.args.fabric.now c.args.pump.now c.loop-number.pump c.split_next.new.self c.loop-number.invariant
    (split_once c.args.fabric.now c.shared.result.trees.now c.in-Some.node c.loop-number.pump c.split_next.new.self c.shared.ensures.trees c.split_next.ensures.split c.split_next.ensures.stays)
