-- What passes between an engine and a client.
use Rattle.std.specs.Prelude.{◌≡◌, ◌⊎◌, ◌↔◌, ℕ, ◌≤◌, true, List, [], ◌∷◌, All}
use Rattle.sq_node_model.specs.NodeValue.{ReceiptValue}
use Rattle.sq_audit.specs.declared.job.Job.{Job}
use Rattle.sq_engine.specs.declared.open_jobs.PostFault.{PostFault}
use Rattle.sq_engine.specs.declared.open_jobs.PostFault.TheVariants.{NoSuchPartition}
use Rattle.sq_engine.specs.declared.client.Command.{Command}
use Rattle.sq_engine.specs.declared.client.Command.TheVariants.{Post, Rest, End}
use Rattle.sq_engine.specs.declared.stage_progress.StageProgress.{StageProgress}
use Rattle.sq_engine.specs.declared.event.Event.{Event}
use Rattle.sq_engine.specs.declared.event.Event.TheVariants.{Posts, Refuses, Answers, Drops, Loses, Rests, Ends, MovesTo}
use Rattle.sq_engine.specs.Events.{arrived_from, are_whole}
use Rattle.sq_engine.specs.Open.{OpenJobsValue, Adds, AddsEach}

-- a client was told the progress of its stage and asked for its next command, was given an answer
-- of a partition, or got back a job that wasn't posted
pub data ClientCall : Type 0 where
  Asked : (progress : StageProgress) → (command : Command) → ClientCall
  Told : (part : ℕ) → (receipt : ReceiptValue) → ClientCall
  Returned : (job : Job) → (fault : PostFault) → ClientCall

-- how a call changes a client that is told of a stage in which `segments` segments move
abbrev pub InStage : {X : Type 0} → ℕ → (X → ClientCall → X → Type 0) → X → ClientCall → X → Type 0
InStage segments becomes old (Asked progress command) new =
    (progress.segments ≡ segments) × becomes old (Asked progress command) new
InStage segments becomes old (Told part receipt) new = becomes old (Told part receipt) new
InStage segments becomes old (Returned job fault) new = becomes old (Returned job fault) new

-- a client was asked, and this was its command
abbrev pub IsAsked : {X : Type 0} → (X → ClientCall → X → Type 0) → X → Command → X → Type 0
IsAsked becomes old command new = (progress : StageProgress) × becomes old (Asked progress command) new

-- how an event changes the client that is served in it
abbrev pub ChangesClient : {X : Type 0} → (X → ClientCall → X → Type 0) → X → Event → X → Type 0
ChangesClient becomes old (Posts job) new = IsAsked becomes old (Post job) new
ChangesClient {X} becomes old (Refuses job fault) new =
    (between : X) × IsAsked becomes old (Post job) between × becomes between (Returned job fault) new
ChangesClient becomes old (Answers part receipt) new = becomes old (Told part receipt) new
ChangesClient becomes old (Drops part receipt) new = new ≡ old
ChangesClient becomes old Loses new = new ≡ old
ChangesClient becomes old Rests new = IsAsked becomes old Rest new
ChangesClient becomes old Ends new = IsAsked becomes old End new
ChangesClient becomes old (MovesTo plan) new = ⊥

-- how these events, one after another, change the client that is served in them
abbrev pub ChangesClientEach : {X : Type 0} → (X → ClientCall → X → Type 0) → X → List Event → X → Type 0
ChangesClientEach becomes first [] last = last ≡ first
ChangesClientEach {X} becomes first (event ∷ more) last =
    (next : X) × ChangesClient becomes first event next × ChangesClientEach becomes next more last

-- these events were added, and changed the client that was served in them
pub record Happens {X : Type 0} (becomes : X → ClientCall → X → Type 0) (more : List Event)
    (old : OpenJobsValue) (before : X) (new : OpenJobsValue) (after : X) : Type 0 where
  pub jobs : AddsEach more old new
  pub client : ChangesClientEach becomes before more after

-- if a job is returned, its partition is missing exactly if the fault says so
abbrev pub NamesPartition : ℕ → Event → Type 0
NamesPartition parts (Refuses job fault) = (fault ≡ NoSuchPartition) ↔ (parts ≤ job.part)
NamesPartition parts _ = Unit {0}

-- a job was posted, or returned to its client, after the client was asked for it
abbrev pub IsOffered : {X : Type 0} → ℕ → (X → ClientCall → X → Type 0) → Job → OpenJobsValue → X → OpenJobsValue → X → Type 0
IsOffered parts becomes job old before new after =
    (Adds (Posts job) old new × (after ≡ before))
    ⊎ ((fault : PostFault) × NamesPartition parts (Refuses job fault)
    × Adds (Refuses job fault) old new × becomes before (Returned job fault) after)

-- commands of a client were executed, and no receipt arrived
pub record DoesCommand {X : Type 0} (parts : ℕ) (becomes : X → ClientCall → X → Type 0)
    (old : OpenJobsValue) (before : X) (new : OpenJobsValue) (after : X) : Type 0 where
  pub more : List Event
  pub happens : Happens becomes more old before new after
  pub named : All (NamesPartition parts) more
  pub none_arrived : (part : ℕ) → arrived_from part more ≡ []
  pub whole : are_whole more ≡ true
