use Rattle.sq_driver.specs.Pumps.{PumpDriven}
use Rattle.sq_driver.proofs.pumps.split.Given as goal

-- the pump was driven so far
abbrev pub invariant-loop-number : goal.invariant-loop-number
invariant-loop-number l = PumpDriven l.fabric l.fn.pump l.pump
