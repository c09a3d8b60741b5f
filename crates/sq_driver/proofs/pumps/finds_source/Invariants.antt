use Rattle.sq_driver.specs.Pumps.{PumpDriven}
use Rattle.sq_driver.proofs.pumps.finds_source.Given as goal

-- the pump was driven so far
abbrev pub invariant-loop-segment : goal.invariant-loop-segment
invariant-loop-segment g l = PumpDriven l.fabric l.fn.pump l.pump
