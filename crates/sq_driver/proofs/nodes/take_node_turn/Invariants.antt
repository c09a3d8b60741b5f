use Rattle.sq_driver.specs.Told.{DrivenAndTold}
use Rattle.sq_driver.proofs.nodes.take_node_turn.Given as goal

-- the node was driven so far, and its teller heard what it wrote
abbrev pub invariant-loop-step : goal.invariant-loop-step
invariant-loop-step g l = DrivenAndTold g.T.Teller.Tells l.fabric l.fn.node l.fn.teller l.node l.teller
