use Rattle.sq_engine.proofs.Resting.{GivesFirst}
use Rattle.sq_engine.proofs.rings.give_rest.Given as goal

-- all that was sent over the rings so far was given
abbrev pub invariant-loop-number : goal.invariant-loop-number
invariant-loop-number g l =
    GivesFirst g.C.Client.Becomes l.number l.fn.pairs l.fn.jobs l.fn.rings l.fn.client l.pairs l.jobs l.rings l.client
