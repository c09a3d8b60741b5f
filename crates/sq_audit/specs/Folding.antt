-- A fold of what was gathered, after the jobs that have a receipt were found sound.
use Rattle.std.specs.Prelude.{◌≡◌, ℕ, ◌≤◌, Bool, not, nat_lt, List, [], filter, count_by}
use Rattle.sq_gather.specs.Prelude.{ROOT_END, rows_in, OpeningValue, ReceiptValue, GatheredValue, IsPlaced, IsStageDone, folded_opening, folded_gathered, IsFolded}
use Rattle.sq_audit.specs.declared.job.Job.{Job}
use Rattle.sq_audit.specs.declared.folded.Folded.{Folded}
use Rattle.sq_audit.specs.declared.folded.Unfolded.{Unfolded}
use Rattle.sq_audit.specs.declared.folded.Unfolded.TheVariants.{Unsound, Memory}
use Rattle.sq_audit.specs.declared.folding.Ready.{Ready}
use Rattle.sq_audit.specs.declared.folding.Prepared.{Prepared}
use Rattle.sq_audit.specs.declared.folding.Prepared.TheVariants as prepared
use Rattle.sq_audit.specs.Answers.{is_of, IdsDiffer}
use Rattle.sq_audit.specs.ById.{ListsIds}
use Rattle.sq_audit.specs.Rows.{rows_among}
use Rattle.sq_audit.specs.Sound.{with_receipts, IsSoundRun}
use Rattle.sq_audit.specs.Defects.{IsFirstDefect}

-- one of these receipts is the job's
abbrev pub has_receipt : List ReceiptValue → Job → Bool
has_receipt receipts job = nat_lt 0 (count_by (is_of job.txn) receipts)

-- the jobs that have a receipt
abbrev pub answered_jobs : List ReceiptValue → List Job → List Job
answered_jobs receipts jobs = filter (has_receipt receipts) jobs

-- the jobs without a receipt
abbrev pub jobs_left : List ReceiptValue → List Job → List Job
jobs_left receipts jobs = filter (λ job. not (has_receipt receipts job)) jobs

-- the jobs that have a receipt are sound, the table has the rows of the families, and the ids are
-- those of the receipts
pub record IsReadyToFold (o : OpeningValue) (g : GatheredValue) (jobs : List Job) (ready : Ready) : Type 0 where
  pub sound : IsSoundRun o g (answered_jobs g.receipts jobs)
  pub ids : ListsIds g.receipts ready.ids.items
  pub rows : (root : ℕ) → rows_in ready.table root ≡ rows_among [] g.stores root
  pub bound : (root : ℕ) → ROOT_END ≤ root → rows_in ready.table root ≡ []

-- everything is ready for a fold, or the jobs that have a receipt have this defect first
abbrev pub IsPrepared : OpeningValue → GatheredValue → List Job → Prepared → Type 0
IsPrepared o g jobs (prepared.Ready ready) = IsReadyToFold o g jobs ready
IsPrepared o g jobs (prepared.Unsound defect) = IsFirstDefect o g (answered_jobs g.receipts jobs) defect

-- the jobs that have a receipt are sound; the opening is folded and has the rows of the families;
-- what was gathered is folded too, and is placed under it with the segments of its stage complete;
-- and the jobs without a receipt are left, whose ids differ
pub record IsFold (o : OpeningValue) (g : GatheredValue) (jobs : List Job) (folded : Folded) : Type 0 where
  pub sound : IsSoundRun o g (answered_jobs g.receipts jobs)
  pub is_folded : IsFolded o g folded.opening.table folded.gathered.stores
  pub opening : folded.opening ≡ folded_opening o folded.opening.table
  pub gathered : folded.gathered ≡ folded_gathered g folded.gathered.stores
  pub left : folded.jobs.items ≡ jobs_left g.receipts jobs
  pub differ : IdsDiffer folded.jobs.items
  pub placed : IsPlaced folded.opening folded.gathered
  pub done : IsStageDone folded.opening folded.gathered

-- the jobs that have a receipt have this defect first; or memory ran out, and everything is
-- unchanged
abbrev pub IsUnfolded : OpeningValue → GatheredValue → List ReceiptValue → List Job → Unfolded → Type 0
IsUnfolded o g receipts jobs (Unsound defect) = IsFirstDefect o (with_receipts g receipts) (answered_jobs receipts jobs) defect
IsUnfolded o g receipts jobs (Memory back) =
    (back.opening ≡ o) × (back.gathered ≡ g) × (back.receipts.items ≡ receipts) × (back.jobs.items ≡ jobs)
