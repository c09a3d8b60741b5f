use Rattle.sq_engine.specs.Rings.{GivesArrived}
use Rattle.sq_engine.proofs.rings.give_arrived.Given as goal

-- what had arrived over the rings so far was given
abbrev pub invariant-loop-number : goal.invariant-loop-number
invariant-loop-number g l = GivesArrived g.C.Client.Becomes l.fn.jobs l.fn.rings l.fn.client l.jobs l.rings l.client
