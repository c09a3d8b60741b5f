use Rattle.sq_live.proofs.Passing.{IsAt, stages_left}
use Rattle.sq_live.proofs.stages.run_stages.Given as goal

-- the stages so far passed, and the next one is ready
abbrev pub invariant-loop-outcome : goal.invariant-loop-outcome
invariant-loop-outcome g l = IsAt l.fn.manner.folds l.fn.account.opening l.fn.account.jobs l.ready

abbrev pub decreases-loop-outcome : goal.decreases-loop-outcome
decreases-loop-outcome g l = stages_left l.ready
