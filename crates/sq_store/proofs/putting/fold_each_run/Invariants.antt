use Rattle.sq_store.proofs.FoldedRuns.{IsFoldedTo}
use Rattle.sq_store.proofs.putting.fold_each_run.Given as goal

-- the runs so far are folded
abbrev pub invariant-loop-at : goal.invariant-loop-at
invariant-loop-at l = IsFoldedTo l.initial.runs l.runs l.at
