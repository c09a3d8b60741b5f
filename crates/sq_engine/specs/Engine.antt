-- What holds of every engine, and how the calls of an engine change it.
use Rattle.std.specs.Prelude.{◌≡◌, ◌+◌, ◌<◌, ◌≤◌, ◌==◌, ◌&&◌, ℕ, Bool, true, false, if◌then◌else◌, List, [], ◌++◌, length, Option, None, Some, IsSome}
use Rattle.std.specs.List.Sorted.{IsPermutation}
use Rattle.sq_plan.specs.PlanValue.{PlanValue}
use Rattle.sq_moves.specs.ReconValue.{stages}
use Rattle.sq_moves.specs.Between.{recon_fault}
use Rattle.sq_moves.specs.OpeningValue.{OpeningValue}
use Rattle.sq_moves.specs.SetUp.{IsSetUp}
use Rattle.sq_store.specs.StoreValue.{StoreValue}
use Rattle.sq_node_model.specs.NodeValue.{ReceiptValue}
use Rattle.sq_node_model.specs.Gathered.{GatheredValue}
use Rattle.sq_node_model.specs.Next.{IsStageDone}
use Rattle.sq_audit.specs.declared.job.Job.{Job}
use Rattle.sq_audit.specs.declared.verdict.Verdict.{Verdict}
use Rattle.sq_audit.specs.declared.verdict.Verdict.TheVariants.{Sound, Unsound}
use Rattle.sq_audit.specs.declared.verdict.Defect.TheVariants as defect
use Rattle.sq_engine.specs.declared.event.Event.{Event}
use Rattle.sq_engine.specs.declared.event.Event.TheVariants.{Posts, MovesTo}
use Rattle.sq_engine.specs.declared.engine.NotPosted.{NotPosted}
use Rattle.sq_engine.specs.declared.engine.NotPosted.TheVariants.{NoEpoch, Refused}
use Rattle.sq_engine.specs.declared.engine.NotMoved.{NotMoved}
use Rattle.sq_engine.specs.declared.engine.NotMoved.TheVariants as unmoved
use Rattle.sq_engine.specs.declared.engine.NotEnded.{NotEnded}
use Rattle.sq_engine.specs.declared.engine.NotEnded.TheVariants as unended
use Rattle.sq_engine.specs.declared.stage_progress.StageProgress.{StageProgress}
use Rattle.sq_engine.specs.declared.stages.Next.{Next}
use Rattle.sq_engine.specs.declared.stages.Next.TheVariants as next
use Rattle.sq_engine.specs.declared.serving.EpochEnd.{EpochEnd}
use Rattle.sq_engine.specs.Events.{arrivals_in, are_known, are_whole, plan_after}
use Rattle.sq_engine.specs.Open.{OpenJobsValue, no_jobs, AreOpen, Adds, KeepsJobs, IsReturned}
use Rattle.sq_engine.specs.Clients.{ClientCall, InStage, ChangesClientEach}
use Rattle.sq_engine.specs.Progress.{stage_segments, complete_segments_in}
use Rattle.sq_engine.specs.Values.{RunValue, AtValue, Running, Between, Changing, EngineValue, receipts_of}
use Rattle.sq_engine.specs.Serving.{RunsIn}
use Rattle.sq_engine.specs.History.{EndedEpoch, Stands, onward_opening}

-- the receipts that were written so far
abbrev pub receipts_in : AtValue → List ReceiptValue
receipts_in (Running run) = receipts_of run
receipts_in (Between gathered is_due) = gathered.receipts
receipts_in Changing = []

-- the receipts that arrived by these events are those that were written, each once, in any order,
-- but for those that were lost
pub record AreReceipts (events : List Event) (receipts : List ReceiptValue) : Type 0 where
  pub lost : List ReceiptValue
  pub all : IsPermutation (arrivals_in events ++ lost) receipts
  pub none_lost : are_whole events ≡ true → lost ≡ []

-- what holds of every engine, whatever its threads did: some epochs lead to it from its opening; the
-- open jobs follow from its events; what arrived by these is just what its nodes wrote; and rows go
-- to the plan that the last of them names
pub record IsReached (engine : EngineValue) : Type 0 where
  pub set_up : IsSetUp engine.opening
  pub past : List EndedEpoch
  pub stands : Stands engine.first past engine.opening engine.at
  pub open_jobs : AreOpen engine.jobs.events engine.jobs.unanswered
  pub written : AreReceipts engine.jobs.events (receipts_in engine.at)
  pub plan : engine.opening.new ≡ plan_after engine.first.new engine.jobs.events

-- nothing moves
abbrev pub rests : EngineValue → Bool
rests engine = length engine.opening.recon.ranges == 0

-- the families of each partition, if no epoch runs
abbrev pub rows_at : AtValue → Option (List StoreValue)
rows_at (Running run) = None
rows_at (Between gathered is_due) = Some gathered.stores
rows_at Changing = None

abbrev pub rows_in : EngineValue → Option (List StoreValue)
rows_in engine = rows_at engine.at

-- the progress of the running stage: in an epoch at most as many segments are complete as move;
-- after it its trees say how many are complete; in a move that is due none is; and if no epoch runs,
-- no family was moved
abbrev pub HasProgressAt : OpeningValue → AtValue → StageProgress → Type 0
HasProgressAt opening (Running run) progress =
    (progress.segments ≡ stage_segments opening.recon run.fabric.stage) × (progress.complete ≤ progress.segments)
HasProgressAt opening (Between gathered false) progress =
    (progress.segments ≡ stage_segments opening.recon gathered.stage)
    × (progress.complete ≡ complete_segments_in opening.recon gathered) × (progress.moved ≡ 0)
HasProgressAt opening (Between gathered true) progress =
    (progress.segments ≡ stage_segments opening.recon 0) × (progress.complete ≡ 0) × (progress.moved ≡ 0)
HasProgressAt opening Changing progress = ⊥

abbrev pub HasProgress : EngineValue → StageProgress → Type 0
HasProgress engine progress = HasProgressAt engine.opening engine.at progress

-- an engine has opened with `o`: nothing has happened in it
pub record HasOpened (o : OpeningValue) (engine : EngineValue) : Type 0 where
  pub first : engine.first ≡ o
  pub opening : engine.opening ≡ o
  pub jobs : engine.jobs ≡ no_jobs
  pub runs : rows_in engine ≡ None

-- an engine went on by itself: no event was added, the same jobs are open, and the opening is the
-- same
pub record KeepsOpening (old new : EngineValue) : Type 0 where
  pub same : new ≡ record old { at = new.at }

-- an engine went on by itself, perhaps to rest: no event was added, the same jobs are open, and rows
-- go to the same plan
pub record Keeps (old new : EngineValue) : Type 0 where
  pub same : new ≡ record old { opening = new.opening; at = new.at }
  pub plan : new.opening.new ≡ old.opening.new

-- a job was posted: its event was added, it is open, and nothing else changed
pub record IsPosted (job : Job) (old new : EngineValue) : Type 0 where
  pub adds : Adds (Posts job) old.jobs new.jobs
  pub same : new ≡ record old { jobs = new.jobs }

-- why a job isn't posted
abbrev pub IsWhy : Job → EngineValue → Job → NotPosted → Type 0
IsWhy job old back NoEpoch = (back ≡ job) × IsSome (rows_in old)
IsWhy job old back (Refused fault) = IsReturned old.opening.old.parts job old.jobs back fault × (rows_in old ≡ None)

-- a job wasn't posted, for this reason: no event was added, the same jobs are open, and nothing else
-- changed
pub record IsNotPosted (job : Job) (old : EngineValue) (back : Job) (why : NotPosted) (new : EngineValue) : Type 0 where
  pub reason : IsWhy job old back why
  pub jobs : KeepsJobs old.jobs new.jobs
  pub same : new ≡ record old { jobs = new.jobs }

-- how many segments move in the stage of a run
abbrev pub segments_of : OpeningValue → RunValue → ℕ
segments_of opening run = stage_segments opening.recon run.fabric.stage

-- an engine in an epoch, in which this opening is in force
abbrev pub in_epoch : EngineValue → OpeningValue → RunValue → OpenJobsValue → EngineValue
in_epoch engine opening run jobs = record engine { opening = opening; jobs = jobs; at = Running run }

-- an engine went to an epoch, if none ran, in which these events were added; then it went on
pub record AddsEpoch (more : List Event) (end : EpochEnd) (old new : EngineValue) : Type 0 where
  pub opening : OpeningValue
  pub same_plan : opening.new ≡ old.opening.new
  pub run : RunValue
  pub begun : IsReached (in_epoch old opening run old.jobs)
  pub driven : RunValue
  pub left : IsReached (in_epoch old opening driven new.jobs)
  pub runs : RunsIn more run old.jobs end driven new.jobs
  pub first : new.first ≡ old.first
  pub plan : new.opening.new ≡ old.opening.new

-- and a client was served in these events: it was told how many segments move
pub record ServesEpoch {X : Type 0} (becomes : X → ClientCall → X → Type 0) (old : EngineValue) (before : X)
    (end : EpochEnd) (new : EngineValue) (after : X) : Type 0 where
  pub more : List Event
  pub epoch : AddsEpoch more end old new
  pub client : ChangesClientEach (InStage (segments_of epoch.opening epoch.run) becomes) before more after

-- an engine is after the last stage of a move, whose segments are complete
pub record EndsMove (engine : EngineValue) : Type 0 where
  pub gathered : GatheredValue
  pub at : engine.at ≡ Between gathered false
  pub done : IsStageDone engine.opening gathered
  pub last : gathered.stage + 1 ≡ stages engine.opening.recon

-- what follows after a stage; `gathered` is what its workers left
abbrev pub FollowsStage : OpeningValue → GatheredValue → Next → Type 0
FollowsStage opening gathered next.Nothing = IsStageDone opening gathered → ⊥
FollowsStage opening gathered next.Stage = IsStageDone opening gathered × (gathered.stage + 1 < stages opening.recon)
FollowsStage opening gathered next.Rest = IsStageDone opening gathered × (gathered.stage + 1 ≡ stages opening.recon)
FollowsStage opening gathered next.Move = ⊥

-- what an engine does next
abbrev pub BeginsNext : EngineValue → Next → Type 0
BeginsNext engine next.Nothing = (gathered : GatheredValue) → engine.at ≡ Between gathered false → IsStageDone engine.opening gathered → ⊥
BeginsNext engine next.Stage =
    (gathered : GatheredValue) × (engine.at ≡ Between gathered false) × FollowsStage engine.opening gathered next.Stage
BeginsNext engine next.Rest = EndsMove engine
BeginsNext engine next.Move = (gathered : GatheredValue) × (engine.at ≡ Between gathered true)

-- a move to `plan` began, with chunks of at most `limit` bytes: its event was added, the same jobs are
-- open, and the opening in force is that of the move
pub record HasBegunMove (plan : PlanValue) (limit : ℕ) (old new : EngineValue) : Type 0 where
  pub adds : Adds (MovesTo plan) old.jobs new.jobs
  pub opening : new.opening ≡ onward_opening old.opening plan limit
  pub first : new.first ≡ old.first

-- why a move to `plan` doesn't begin; memory is the reason only if the move has no fault
abbrev pub IsNotMoved : PlanValue → NotMoved → EngineValue → EngineValue → Type 0
IsNotMoved plan unmoved.Moving old new = (new ≡ old) × (rests old ≡ false)
IsNotMoved plan (unmoved.Plans fault) old new =
    (new ≡ old) × (recon_fault old.opening.new plan old.opening.config.width ≡ Some fault)
IsNotMoved plan unmoved.Memory old new =
    KeepsOpening old new × (rests old ≡ true)
    × (recon_fault old.opening.new plan old.opening.config.width ≡ None)

-- no epoch runs any more, and nothing else changed
pub record IsPaused (old new : EngineValue) : Type 0 where
  pub keeps : KeepsOpening old new
  pub rows : IsSome (rows_in new)

-- why an epoch isn't ended
abbrev pub IsNotEnded : NotEnded → EngineValue → EngineValue → Type 0
IsNotEnded unended.Moving old new = (new ≡ old) × (rests old ≡ false)
IsNotEnded unended.Memory old new = KeepsOpening old new × (rests old ≡ true)

-- an engine was closed from rest, after the last stage of a move
pub record HasClosed (old new : EngineValue) : Type 0 where
  pub at_rest : rests old ≡ true
  pub keeps : KeepsOpening old new
  pub ends : EndsMove new

-- the verdict on an engine that is closed: sound if each receipt that arrived was an open job's, no
-- job is open, and no receipt was lost
abbrev pub verdict_on : OpenJobsValue → Verdict
verdict_on jobs =
    if are_known jobs.events
    then (if (length jobs.unanswered == 0) && are_whole jobs.events then Sound else Unsound defect.Unanswered)
    else Unsound defect.ReceiptUnknown
