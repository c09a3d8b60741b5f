use Rattle.std.proofs.Common.{◌≡◌, map}
use Rattle.sq_exec.specs.CoreValue.{entered_core}
use Rattle.sq_world.proofs.Each.{changed}
use Rattle.sq_world.proofs.state.leader.enter_all.Given as goal

-- the partitions so far know which stage runs
abbrev pub invariant-loop-core : goal.invariant-loop-core
invariant-loop-core l = map (λ part. part.core) l.cores ≡ changed (entered_core l.stage) l.core-index (map (λ part. part.core) l.initial.cores)
