use Rattle.std.proofs.Common.{◌≡◌}
use Rattle.std.specs.Prelude.{count_by}
use Rattle.sq_audit.specs.declared.job.Job.{Job}
use Rattle.sq_audit.specs.Answers.{is_of}
use Rattle.sq_audit.proofs.Each.{EachTo}
use Rattle.sq_audit.proofs.answered.are_answered.Given as goal

abbrev pub invariant-loop-job : goal.invariant-loop-job
invariant-loop-job l = EachTo (λ (job : Job). count_by (is_of job.txn) l.receipts ≡ 1) l.jobs l.job-index
