-- The outcomes of live runs, by what was gathered of their last stage and the counts over the
-- stages before.
use Rattle.std.specs.Prelude.{◌≡◌, ◌⊎◌, ℕ, ◌+◌, ◌^◌, ◌<◌, ◌||◌, Bool, true, nat_lt, List, [], ◌∷◌, length, sum_by, count_by, codes, decimal}
use Rattle.std.specs.List.{range_with_len}
use Rattle.std.specs.FinMap.{len}
use Rattle.sq_moves.specs.ReconValue.{stage_at, stages}
use Rattle.sq_moves.specs.OpeningValue.{OpeningValue}
use Rattle.sq_leader.specs.LeaderValue.{StageValue}
use Rattle.sq_text.specs.Texts.{line}
use Rattle.sq_node_model.specs.NodeValue.{ReceiptValue}
use Rattle.sq_node_model.specs.Receipts.{is_commit}
use Rattle.sq_node_model.specs.Gathered.{GatheredValue}
use Rattle.sq_node_model.specs.Next.{is_complete_in, IsStageDone}
use Rattle.sq_audit.specs.declared.job.Job.{Job}
use Rattle.sq_audit.specs.declared.verdict.Defect.{Defect}
use Rattle.sq_audit.specs.Defects.{defect_number, IsFirstDefect}
use Rattle.sq_audit.specs.Sound.{IsSoundRun}
use Rattle.sq_audit.specs.Folding.{answered_jobs}
use Rattle.sq_live.specs.declared.outcome.LiveOutcome.{LiveOutcome}
use Rattle.sq_live.specs.declared.outcome.LiveOutcome.TheVariants.{Sound, Stopped, Unsound}
use Rattle.sq_live.specs.Account.{AccountValue}
use Rattle.sq_leader.specs.Leading.{HasGoneOn, HasEnded}

abbrev pub outcome_line : LiveOutcome → List ℕ
outcome_line (Sound families committed) =
    line (codes "sound" ∷ decimal families ∷ codes "families" ∷ decimal committed ∷ codes "committed" ∷ [])
outcome_line (Stopped answered jobs complete segments) =
    line (codes "stopped" ∷ decimal answered ∷ codes "of" ∷ decimal jobs ∷ codes "jobs," ∷ decimal complete ∷ codes "of"
    ∷ decimal segments ∷ codes "segments" ∷ [])
outcome_line (Unsound defect) = line (codes "unsound" ∷ decimal (defect_number defect) ∷ [])

abbrev pub outcome_status : LiveOutcome → ℕ
outcome_status (Sound families committed) = 0
outcome_status (Stopped answered jobs complete segments) = 3
outcome_status (Unsound defect) = 4

-- how many of the jobs are answered: they have a receipt
abbrev pub answered_count : List ReceiptValue → List Job → ℕ
answered_count receipts jobs = length (answered_jobs receipts jobs)

-- segment `seg` is complete: it moved in a stage before the gathered one, or its node 1 reads
-- complete; a segment without gathered statuses doesn't
abbrev pub segment_has_moved : OpeningValue → GatheredValue → ℕ → Bool
segment_has_moved o g seg = nat_lt (stage_at o.recon seg) g.stage || is_complete_in g seg

-- how many segments are complete
abbrev pub moved_count : OpeningValue → GatheredValue → ℕ
moved_count o g = count_by (segment_has_moved o g) (range_with_len 0 (length o.recon.segments))

-- how many receipts are of commits
abbrev pub commit_count : List ReceiptValue → ℕ
commit_count receipts = count_by (λ receipt. is_commit receipt.reply) receipts

-- how many families all stores have together
abbrev pub stored_count : GatheredValue → ℕ
stored_count g = sum_by (λ store. len store) g.stores

-- each job is answered, each segment is complete, and the leader ended the move
pub record IsDone (account : AccountValue) (g : GatheredValue) : Type 0 where
  pub answered : answered_count g.receipts account.jobs ≡ length account.jobs
  pub moved : moved_count account.opening g ≡ length account.opening.recon.segments
  -- the leader at the end
  pub leader : StageValue
  pub ended : HasEnded account.opening g.stage (is_complete_in g) leader

-- why a run stopped: a segment of the stage isn't complete, or after the last stage a job isn't
-- answered
abbrev pub WhyStopped : AccountValue → GatheredValue → Type 0
WhyStopped account g =
    (IsStageDone account.opening g → ⊥)
    ⊎ ((g.stage + 1 ≡ stages account.opening.recon) × (answered_count g.receipts account.jobs < length account.jobs))

-- the run stopped: `answered` of the `posted` jobs have an answer, in the folded logs or in a
-- receipt now, and `complete` of the `segments` segments are complete
pub record HasStopped (account : AccountValue) (g : GatheredValue) (answered posted complete segments : ℕ) : Type 0 where
  pub answered_is : answered ≡ account.answered + answered_count g.receipts account.jobs
  pub posted_is : posted ≡ account.answered + length account.jobs
  pub complete_is : complete ≡ moved_count account.opening g
  pub segments_are : segments ≡ length account.opening.recon.segments
  pub why : WhyStopped account g
  pub missing : (answered < posted) ⊎ (complete < segments)

-- a run is sound, has `families` families now, and `committed` receipts of commits, in the folded
-- logs or now
pub record IsFoundSound (account : AccountValue) (g : GatheredValue) (families committed : ℕ) : Type 0 where
  pub is_done : IsDone account g
  pub sound : IsSoundRun account.opening g account.jobs
  pub families_are : stored_count g < 2 ^ 64 → families ≡ stored_count g
  pub committed_are : committed ≡ account.committed + commit_count g.receipts

-- an audit found this defect first: the audit before a fold between two stages, or the one of all
-- jobs at the end
abbrev pub IsFoundUnsound : Bool → AccountValue → GatheredValue → Defect → Type 0
IsFoundUnsound folds account g defect =
    ((folds ≡ true) × (leader : StageValue) × HasGoneOn account.opening g.stage (is_complete_in g) leader
    × IsFirstDefect account.opening g (answered_jobs g.receipts account.jobs) defect)
    ⊎ (IsDone account g × IsFirstDefect account.opening g account.jobs defect)

-- the outcome of a run whose last stage left `g`; `folds` says whether logs are folded between
-- stages
abbrev pub CameTo : Bool → AccountValue → GatheredValue → LiveOutcome → Type 0
CameTo folds account g (Sound families committed) = IsFoundSound account g families committed
CameTo folds account g (Stopped answered posted complete segments) = HasStopped account g answered posted complete segments
CameTo folds account g (Unsound defect) = IsFoundUnsound folds account g defect
