use Rattle.sq_gather.proofs.AllOf.{pump_claimed}
use Rattle.sq_gather.proofs.laws.a_pump_stays_a_pump.Goals as goal

pub returns : goal.returns
returns c = λ fabric old new is of claimed. pump_claimed fabric old new is of claimed
