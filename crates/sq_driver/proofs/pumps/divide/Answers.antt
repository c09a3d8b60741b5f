use Rattle.sq_driver.specs.Laws.{pump_further}
use Rattle.sq_driver.proofs.Pumping.{put_off_once}
use Rattle.sq_driver.proofs.pumps.divide.Goals as goal

pub loop-segment-preserved : goal.loop-segment-preserved
loop-segment-preserved c =
    pump_further c.args.fabric.now c.args.pump.now c.split.new.pump c.put_off.new.self
    (pump_further c.args.fabric.now c.args.pump.now c.loop-segment.pump c.split.new.pump c.loop-segment.invariant c.split.ensures)
    (put_off_once c.args.fabric.now c.split.new.pump c.put_off.new.self c.split.ensures.stays c.put_off.ensures.put_off)
