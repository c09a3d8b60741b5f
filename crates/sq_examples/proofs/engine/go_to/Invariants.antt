use Rattle.sq_examples.specs.Return.{GoesTo}
use Rattle.sq_examples.proofs.engine.go_to.Given as goal

abbrev pub invariant-loop-stage : goal.invariant-loop-stage
invariant-loop-stage g l = GoesTo l.fn.plan l.fn.engine l.engine
