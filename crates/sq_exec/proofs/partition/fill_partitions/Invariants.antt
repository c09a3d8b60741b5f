use Rattle.std.proofs.Common.{length, map}
use Rattle.sq_exec.proofs.Fills.{IsFilled}
use Rattle.sq_exec.proofs.partition.fill_partitions.Given as goal

-- the rows that were taken are in their families
abbrev pub invariant-loop-root : goal.invariant-loop-root
invariant-loop-root l = IsFilled l.plan l.initial.table l.table (map (λ part. part.core) l.initial.cores) (map (λ part. part.core) l.cores)

abbrev pub decreases-loop-root : goal.decreases-loop-root
decreases-loop-root l = length l.table
