use Rattle.sq_driver.specs.Laws.{pump_further}
use Rattle.sq_driver.proofs.Pumping.{put_off_once}
use Rattle.sq_driver.proofs.pumps.finds_source.Goals as goal

pub loop-segment-preserved : goal.loop-segment-preserved
loop-segment-preserved g c =
    pump_further c.args.fabric.now c.args.pump.now c.loop-segment.pump c.put_off.new.self c.loop-segment.invariant
    (put_off_once c.args.fabric.now c.loop-segment.pump c.put_off.new.self c.loop-segment.invariant.stays c.put_off.ensures.put_off)
