use Rattle.sq_gather.proofs.StageDone.{AreDoneTo}
use Rattle.sq_gather.proofs.gathered.Gathered.is_stage_done.Given as goal

-- the segments of the stage so far are complete
abbrev pub invariant-loop-place : goal.invariant-loop-place
invariant-loop-place l = AreDoneTo l.opening l.self l.place
