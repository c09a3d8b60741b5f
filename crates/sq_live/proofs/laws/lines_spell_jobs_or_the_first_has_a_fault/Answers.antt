use Rattle.sq_live.proofs.SpelledJobs.{jobs_spelled, spelled_jobs, fault_told}
use Rattle.sq_live.proofs.laws.lines_spell_jobs_or_the_first_has_a_fault.Goals as goal

pub returns-clause-jobs : goal.returns-clause-jobs
returns-clause-jobs c = λ tables parts pieces jobs. (jobs_spelled tables parts pieces jobs, spelled_jobs tables parts pieces jobs)

pub returns-clause-fault : goal.returns-clause-fault
returns-clause-fault c = fault_told
