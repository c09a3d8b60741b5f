-- From one stage of a live run to the next.
use Rattle.std.specs.Prelude.{◌≡◌, ◌+◌, Bool, true, false, List, [], ◌∷◌, length}
use Rattle.std.specs.declared.ops.ControlFlow.{ControlFlow}
use Rattle.std.specs.declared.ops.ControlFlow.TheVariants.{Continue, Break}
use Rattle.sq_moves.specs.OpeningValue.{OpeningValue}
use Rattle.sq_leader.specs.LeaderValue.{StageValue}
use Rattle.sq_node_model.specs.BeganWith.{BeganWith, first_began}
use Rattle.sq_node_model.specs.Gathered.{GatheredValue}
use Rattle.sq_node_model.specs.Next.{is_complete_in, IsStageDone, next_began}
use Rattle.sq_audit.specs.declared.job.Job.{Job}
use Rattle.sq_audit.specs.declared.folded.Folded.{Folded}
use Rattle.sq_audit.specs.declared.verdict.Defect.{Defect}
use Rattle.sq_audit.specs.Defects.{IsFirstDefect}
use Rattle.sq_audit.specs.Folding.{IsFold, answered_jobs}
use Rattle.sq_driver.specs.StageRunValue.{BeganFrom, RanFrom}
use Rattle.sq_live.specs.declared.outcome.LiveOutcome.{LiveOutcome}
use Rattle.sq_live.specs.declared.outcome.LiveOutcome.TheVariants as outcome
use Rattle.sq_live.specs.declared.continuing.Continued.{Continued}
use Rattle.sq_live.specs.declared.stages.Ready.{Ready}
use Rattle.sq_live.specs.Account.{AccountValue, IsAccount, first_account}
use Rattle.sq_leader.specs.Leading.{leading, HasGoneOn}
use Rattle.sq_live.specs.Outcome.{commit_count, CameTo}

-- the jobs with receipts were audited and the logs are folded: both are counted, and the run
-- continues with what the fold gave
pub record HasFolded (old : AccountValue) (g : GatheredValue) (new : AccountValue) (next : GatheredValue) : Type 0 where
  pub folded : Folded
  pub is : IsFold old.opening g old.jobs folded
  pub opening : new.opening ≡ folded.opening
  pub jobs : new.jobs ≡ folded.jobs.items
  pub answered : new.answered ≡ old.answered + length (answered_jobs g.receipts old.jobs)
  pub committed : new.committed ≡ old.committed + commit_count g.receipts
  pub gathered : next ≡ folded.gathered

-- what a run continues with after a stage: what the fold gives, or if logs aren't folded everything
-- unchanged
abbrev pub ContinuesWith : Bool → AccountValue → GatheredValue → AccountValue → GatheredValue → Type 0
ContinuesWith true old g new next = HasFolded old g new next
ContinuesWith false old g new next = (new ≡ old) × (next ≡ g)

-- a run continues with `now`, or the audit before the fold found a defect
abbrev pub ContinuesIfSound : Bool → AccountValue → GatheredValue → ControlFlow Defect Continued → Type 0
ContinuesIfSound folds old g (Continue now) =
    ContinuesWith folds old g now.account now.gathered × (now.told.items ≡ now.gathered.receipts)
ContinuesIfSound folds old g (Break defect) = (folds ≡ true) × IsFirstDefect old.opening g (answered_jobs g.receipts old.jobs) defect

-- a stage that began with `began` left `g`, with all of its segments complete, the leader moved on,
-- and the next stage began with what the run continues with
pub record HasPassed (folds : Bool) (old : AccountValue) (began : BeganWith) (g : GatheredValue) (new : AccountValue)
    (later : BeganWith) : Type 0 where
  pub ran : RanFrom old.opening began g
  pub done : IsStageDone old.opening g
  pub leader : StageValue
  pub led : HasGoneOn old.opening g.stage (is_complete_in g) leader
  pub next : GatheredValue
  pub continues : ContinuesWith folds old g new next
  pub later_is : later ≡ next_began new.opening next

-- the stages that left `earlier` passed, the last of them first, and then a stage began with
-- `began`
abbrev pub HavePassed : Bool → OpeningValue → List Job → List GatheredValue → AccountValue → BeganWith → Type 0
HavePassed folds o jobs [] account began = (account ≡ first_account o jobs) × (began ≡ first_began o)
HavePassed folds o jobs (g ∷ earlier) account began =
    (old : AccountValue) × (before : BeganWith) × HavePassed folds o jobs earlier old before × HasPassed folds old before g account began

-- a stage that began with `began` is ready to run, and the leader leads it
pub record IsReady (began : BeganWith) (ready : Ready) : Type 0 where
  pub run : BeganFrom ready.account.opening began ready.run
  pub led : ready.moving ≡ leading ready.account.opening began.stage
  pub is_account : IsAccount ready.account
  pub told : ready.told.items ≡ ready.run.fabric.receipts

-- what comes after a stage that began with `began`: the run ends, or the next stage is ready
abbrev pub ComesAfterStage : Bool → AccountValue → BeganWith → ControlFlow LiveOutcome Ready → Type 0
ComesAfterStage folds account began (Break outcome) =
    (g : GatheredValue) × RanFrom account.opening began g × CameTo folds account g outcome
ComesAfterStage folds account began (Continue ready) =
    (g : GatheredValue) × (later : BeganWith) × HasPassed folds account began g ready.account later × IsReady later ready

-- the next stage is ready after the leader moved on, or the audit before the fold ended the run at
-- a defect
abbrev pub GoesOnTo : Bool → AccountValue → GatheredValue → ControlFlow LiveOutcome Ready → Type 0
GoesOnTo folds old g (Break ended) =
    (defect : Defect) × (ended ≡ outcome.Unsound defect) × ContinuesIfSound folds old g (Break defect)
GoesOnTo folds old g (Continue ready) =
    (next : GatheredValue) × ContinuesWith folds old g ready.account next × IsReady (next_began ready.account.opening next) ready
