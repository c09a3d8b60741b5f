use Rattle.sq_driver.specs.Laws.{pump_further}
use Rattle.sq_driver.proofs.pumps.claim.Goals as goal

pub returns-then-finds_source : goal.returns-then-finds_source
returns-then-finds_source g c =
    pump_further c.args.fabric.now c.args.pump.now c.finds_source.new.pump c.claim_next.new.pump c.finds_source.ensures c.claim_next.ensures
