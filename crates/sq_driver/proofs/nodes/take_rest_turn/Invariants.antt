use Rattle.sq_driver.specs.Told.{DrivenAndTold}
use Rattle.sq_driver.proofs.nodes.take_rest_turn.Given as goal

-- the node was driven so far, and its teller heard what it wrote
abbrev pub invariant-loop-job : goal.invariant-loop-job
invariant-loop-job g l = DrivenAndTold g.T.Teller.Tells l.fabric l.fn.node l.fn.teller l.node l.teller
