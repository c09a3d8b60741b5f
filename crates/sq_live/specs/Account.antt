-- Counts kept over the stages of a live run.
use Rattle.std.specs.Prelude.{ℕ, ◌+◌, ◌≤◌, List, length}
use Rattle.sq_moves.specs.OpeningValue.{OpeningValue}
use Rattle.sq_moves.specs.Opening.{IsOpening}
use Rattle.sq_audit.specs.declared.job.Job.{Job}
use Rattle.sq_audit.specs.Answers.{IdsDiffer}
use Rattle.sq_live.specs.declared.job_list.TheConstants.{MAX_JOBS}

-- the opening and the jobs that the next audit uses, and over the logs already folded: how many
-- jobs were answered, and how many receipts are of commits
pub record AccountValue : Type 0 where
  pub opening : OpeningValue
  pub jobs : List Job
  pub answered : ℕ
  pub committed : ℕ

-- before the first stage nothing is folded
abbrev pub first_account : OpeningValue → List Job → AccountValue
first_account o jobs = record { opening = o; jobs = jobs; answered = 0; committed = 0 }

-- the opening is one, the ids of the jobs differ, there are at most MAX_JOBS jobs with those
-- already answered, and at most as many commits as answers
pub record IsAccount (account : AccountValue) : Type 0 where
  pub is_opening : IsOpening account.opening
  pub differ : IdsDiffer account.jobs
  pub few : account.answered + length account.jobs ≤ MAX_JOBS
  pub commits : account.committed ≤ account.answered
