use Rattle.sq_live.specs.Jobs.{HavePartitions}
use Rattle.sq_live.proofs.JobRuns.{JobsSoFar}
use Rattle.sq_live.proofs.job_list.read_jobs.Given as goal

-- the jobs so far are those of the lines so far, each of a partition
abbrev pub invariant-loop-jobs : goal.invariant-loop-jobs
invariant-loop-jobs g l = JobsSoFar l.schema l.parts l.initial.lines l.lines l.jobs × HavePartitions l.parts l.jobs

abbrev pub decreases-loop-jobs : goal.decreases-loop-jobs
decreases-loop-jobs g l = l.lines.lines_left
