use Rattle.std.proofs.Common.{◌≡◌, ◌≤◌, take}
use Rattle.std.specs.Prelude.{count_by}
use Rattle.sq_audit.specs.ById.{is_listed}
use Rattle.sq_audit.proofs.answered.count_answered.Given as goal

-- so many of the jobs so far have a receipt
abbrev pub invariant-loop-job : goal.invariant-loop-job
invariant-loop-job l = (l.answered ≡ count_by (is_listed l.ids.items) (take l.job-index l.jobs)) × (l.answered ≤ l.job-index)
