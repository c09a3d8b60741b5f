-- The open jobs of an engine, which follow from its events: those that were posted and have no
-- answer yet.
use Rattle.std.specs.Prelude.{◌≡◌, ◌↔◌, ℕ, ◌≤◌, ◌==◌, nat_eq, if◌then◌else◌, List, [], ◌∷◌, ◌++◌, Option, Some, None, IsSome}
use Rattle.std.specs.Map.{lookup}
use Rattle.sq_schema.specs.TxnValue.{TxnValue}
use Rattle.sq_node_model.specs.NodeValue.{ReceiptValue}
use Rattle.sq_audit.specs.declared.job.Job.{Job}
use Rattle.sq_engine.specs.declared.open_jobs.PostFault.{PostFault}
use Rattle.sq_engine.specs.declared.open_jobs.PostFault.TheVariants.{RepeatedId, NoSuchPartition}
use Rattle.sq_engine.specs.declared.event.Event.{Event}
use Rattle.sq_engine.specs.declared.event.Event.TheVariants.{Posts, Refuses, Answers, Drops, Loses, Rests, Ends, MovesTo}

-- jobs by id
abbrev pub JobMap : Type 0
JobMap = List (ℕ × Job)

-- the job with this id
abbrev pub job_at : JobMap → ℕ → Option Job
job_at jobs id = lookup (nat_eq id) jobs

-- the same jobs are open
abbrev pub KeepsOpen : JobMap → JobMap → Type 0
KeepsOpen old new = (id : ℕ) → job_at new id ≡ job_at old id

-- the job is open from now on: no open job had its id
pub record Opens (job : Job) (old new : JobMap) : Type 0 where
  pub fresh : job_at old job.txn.id ≡ None
  pub jobs : (id : ℕ) → job_at new id ≡ (if id == job.txn.id then Some job else job_at old id)

-- an open job has this transaction
abbrev pub HasOpenTxn : JobMap → TxnValue → Type 0
HasOpenTxn jobs txn = (job : Job) × (job_at jobs txn.id ≡ Some job) × (job.txn ≡ txn)

-- the receipt has the transaction of an open job, which is open no more
pub record Closes (receipt : ReceiptValue) (old new : JobMap) : Type 0 where
  pub was : HasOpenTxn old receipt.txn
  pub jobs : (id : ℕ) → job_at new id ≡ (if id == receipt.txn.id then None else job_at old id)

-- no open job has the receipt's transaction, and the same jobs are open
abbrev pub FindsNone : ReceiptValue → JobMap → JobMap → Type 0
FindsNone receipt old new = (HasOpenTxn old receipt.txn → ⊥) × KeepsOpen old new

-- a job isn't posted for this fault: for a repeated id only if an open job has it
abbrev pub HasReason : JobMap → Job → PostFault → Type 0
HasReason jobs job fault = fault ≡ RepeatedId → IsSome (job_at jobs job.txn.id)

-- how an event changes the open jobs: a posted job is opened, and an answer closes its job
abbrev pub ChangesJobs : JobMap → Event → JobMap → Type 0
ChangesJobs old (Posts job) new = Opens job old new
ChangesJobs old (Answers part receipt) new = Closes receipt old new
ChangesJobs old (Drops part receipt) new = FindsNone receipt old new
ChangesJobs old (Refuses job fault) new = HasReason old job fault × KeepsOpen old new
ChangesJobs old Loses new = KeepsOpen old new
ChangesJobs old Rests new = KeepsOpen old new
ChangesJobs old Ends new = KeepsOpen old new
ChangesJobs old (MovesTo plan) new = KeepsOpen old new

-- how these events, one after another, change the open jobs
abbrev pub ChangesJobsEach : JobMap → List Event → JobMap → Type 0
ChangesJobsEach first [] last = KeepsOpen first last
ChangesJobsEach first (event ∷ more) last =
    (next : JobMap) × ChangesJobs first event next × ChangesJobsEach next more last

-- after these events just these jobs are open
abbrev pub AreOpen : List Event → JobMap → Type 0
AreOpen events jobs = ChangesJobsEach [] events jobs

-- all events of an engine, and the open jobs, each with its id
pub record OpenJobsValue : Type 0 where
  pub events : List Event
  pub unanswered : JobMap

-- no event, and no open job
abbrev pub no_jobs : OpenJobsValue
no_jobs = record { events = []; unanswered = [] }

-- the open job with this id
abbrev pub open_job : OpenJobsValue → ℕ → Option Job
open_job jobs id = job_at jobs.unanswered id

-- an open job has this transaction
abbrev pub IsOpenTxn : OpenJobsValue → TxnValue → Type 0
IsOpenTxn jobs txn = HasOpenTxn jobs.unanswered txn

-- one event was added
pub record Adds (event : Event) (old new : OpenJobsValue) : Type 0 where
  pub events : new.events ≡ old.events ++ event ∷ []
  pub jobs : ChangesJobs old.unanswered event new.unanswered

-- these events were added
pub record AddsEach (more : List Event) (old new : OpenJobsValue) : Type 0 where
  pub events : new.events ≡ old.events ++ more
  pub jobs : ChangesJobsEach old.unanswered more new.unanswered

-- no event was added, and the same jobs are open
pub record KeepsJobs (old new : OpenJobsValue) : Type 0 where
  pub events : new.events ≡ old.events
  pub jobs : KeepsOpen old.unanswered new.unanswered

-- the job is returned for a fault that it has: no such partition exactly if its partition is none of
-- `parts`, a repeated id only if an open job has it
pub record IsReturned (parts : ℕ) (job : Job) (jobs : OpenJobsValue) (back : Job) (fault : PostFault) : Type 0 where
  pub same : back ≡ job
  pub partition : (fault ≡ NoSuchPartition) ↔ (parts ≤ job.part)
  pub reason : HasReason jobs.unanswered job fault
