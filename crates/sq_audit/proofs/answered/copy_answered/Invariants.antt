use Rattle.std.proofs.Common.{◌≡◌, filter, take}
use Rattle.sq_audit.specs.ById.{is_listed}
use Rattle.sq_audit.proofs.answered.copy_answered.Given as goal

-- the jobs so far that have a receipt are copied
abbrev pub invariant-loop-job : goal.invariant-loop-job
invariant-loop-job l = l.answered.items ≡ filter (is_listed l.ids) (take l.job-index l.jobs)
