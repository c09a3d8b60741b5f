-- Jobs with their ids.
use Rattle.std.specs.Prelude.{◌≡◌, ◌≤◌, ◌<◌, ◌==◌, ℕ, Bool, List, length, All}
use Rattle.std.specs.List.{list_any}
use Rattle.std.specs.Ordering.{nat_cmp}
use Rattle.std.specs.BTreeSet.{BTreeSet, contains}
use Rattle.sq_audit.specs.declared.job.Job.{Job}
use Rattle.sq_audit.specs.Answers.{IdsDiffer}
use Rattle.sq_live.specs.declared.job_list.TheConstants.{MAX_JOBS}

-- one of the jobs has this id
abbrev pub has_id : ℕ → List Job → Bool
has_id id jobs = list_any (λ job. job.txn.id == id) jobs

-- `ids` are the ids of the jobs, which all differ, and there are at most MAX_JOBS jobs
pub record HasIds (jobs : List Job) (ids : BTreeSet ℕ) : Type 0 where
  pub differ : IdsDiffer jobs
  pub each : (id : ℕ) → contains nat_cmp ids id ≡ has_id id jobs
  pub few : length jobs ≤ MAX_JOBS

-- each job is posted to one of `parts` partitions
abbrev pub HavePartitions : ℕ → List Job → Type 0
HavePartitions parts jobs = All (λ job. job.part < parts) jobs
