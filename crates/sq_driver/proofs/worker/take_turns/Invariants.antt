use Rattle.sq_driver.proofs.worker.take_turns.Given as goal

-- the worker was driven so far
abbrev pub invariant-loop-turn : goal.invariant-loop-turn
invariant-loop-turn g l = g.W.Worker.Driven l.fabric l.fn.worker l.worker
