-- The jobs that lines spell.
use Rattle.std.specs.Prelude.{◌≡◌, ◌≢◌, ℕ, ◌+◌, ◌==◌, nat_lt, if◌then◌else◌, List, [], ◌∷◌, ◌++◌, length, Some, Result, Ok, Err}
use Rattle.sq_schema.specs.TxnValue.{TxnValue}
use Rattle.sq_audit.specs.declared.job.Job.{Job}
use Rattle.sq_text.specs.declared.reader.TheConstants.{MAX_LINES}
use Rattle.sq_text.specs.Pieces.{PieceValue, Line, Rest, Failed, Endless, TooMany as TooManyLines}
use Rattle.sq_text.specs.Coming.{LinesValue, CanCome}
use Rattle.sq_model.specs.declared.step.Step.{Step}
use Rattle.sq_model.specs.declared.step.Step.TheVariants.{Submit}
use Rattle.sq_text.specs.declared.fault.LineFault.{LineFault}
use Rattle.sq_text.specs.declared.fault.LineFault.TheVariants as line
use Rattle.sq_text.specs.declared.input_fault.InputFault.TheVariants as input
use Rattle.sq_text.specs.declared.located.InputLine.TheVariants.{Later}
use Rattle.sq_text.specs.Located.{located}
use Rattle.sq_text.specs.Steps.{step_of}
use Rattle.sq_live.specs.declared.job_list.TheConstants.{MAX_JOBS}
use Rattle.sq_live.specs.declared.fault.JobFault.{JobFault}
use Rattle.sq_live.specs.declared.fault.JobFault.TheVariants.{TooMany, NotAJob, RepeatedId, Txn, NoSuchPartition, LineTooLong, Memory}
use Rattle.sq_live.specs.declared.fault.LiveFault.{LiveFault}
use Rattle.sq_live.specs.declared.fault.LiveFault.TheVariants.{Input}
use Rattle.sq_live.specs.Faults.{fault_at, out_of_memory}
use Rattle.sq_live.specs.Jobs.{has_id}

-- the job of `txn` for partition `part`, unless there is no such partition or one of `jobs` has its
-- id
abbrev pub fresh_job : ℕ → List Job → ℕ → TxnValue → Result Job JobFault
fresh_job parts jobs part txn =
    if nat_lt part parts then (if has_id txn.id jobs then Err RepeatedId else Ok (record { part = part; txn = txn }))
    else Err NoSuchPartition

-- the result `told`, unless there are already MAX_JOBS jobs
abbrev pub if_room : List Job → Result Job JobFault → Result Job JobFault
if_room jobs told = if length jobs == MAX_JOBS then Err TooMany else told

-- the job after `jobs` that a line spells, by the step that it spells
abbrev pub job_by : ℕ → List Job → Result Step LineFault → Result Job JobFault
job_by parts jobs (Ok (Submit part txn)) = if_room jobs (fresh_job parts jobs part txn)
job_by parts jobs (Ok step) = Err NotAJob
job_by parts jobs (Err line.NotAStep) = Err NotAJob
job_by parts jobs (Err line.TooLong) = Err LineTooLong
job_by parts jobs (Err (line.Txn fault)) = if_room jobs (Err (Txn fault))
job_by parts jobs (Err line.Memory) = Err Memory

-- the job after `jobs` that a line spells, for a schema of `tables` tables and for `parts`
-- partitions
abbrev pub job_of : ℕ → ℕ → List Job → List ℕ → Result Job JobFault
job_of tables parts jobs line = job_by parts jobs (step_of tables line)

-- the jobs of the lines after `jobs` and the job of line `number`, or the fault of that line
abbrev pub jobs_then : ℕ → List Job → Result Job JobFault → (List Job → Result (List Job) LiveFault) → Result (List Job) LiveFault
jobs_then number jobs (Ok job) others = others (jobs ++ job ∷ [])
jobs_then number jobs (Err fault) others = Err (fault_at number fault)

-- the jobs that pieces spell, after `jobs`, or the first fault
abbrev pub jobs_in : ℕ → ℕ → List Job → List PieceValue → Result (List Job) LiveFault
jobs_in tables parts jobs [] = Ok jobs
jobs_in tables parts jobs (Line number bytes ∷ pieces) =
    jobs_then number jobs (job_of tables parts jobs bytes) (λ more. jobs_in tables parts more pieces)
jobs_in tables parts jobs (Rest number bytes ∷ pieces) = Err (fault_at number NotAJob)
jobs_in tables parts jobs (Failed number bytes ∷ pieces) = Err (Input (located input.ReadFailed (Some (Later number))))
jobs_in tables parts jobs (Endless number bytes ∷ pieces) = Err (Input (located input.TooLong (Some (Later number))))
jobs_in tables parts jobs (TooManyLines ∷ pieces) = Err (Input (located input.TooLong (Some (Later (MAX_LINES + 1)))))

-- the transaction was added as a job or has the fault; if memory ran out or there is a fault, the
-- jobs are unchanged
abbrev pub AddsFresh : ℕ → List Job → ℕ → TxnValue → Result Unit JobFault → List Job → Type 0
AddsFresh parts old part txn (Ok done) new =
    (if_room old (fresh_job parts old part txn) ≡ Ok (record { part = part; txn = txn }))
    × (new ≡ old ++ record { part = part; txn = txn } ∷ [])
AddsFresh parts old part txn (Err Memory) new = new ≡ old
AddsFresh parts old part txn (Err fault) new = (if_room old (fresh_job parts old part txn) ≡ Err fault) × (new ≡ old)

-- the job of the line was added or the line has the fault; if memory ran out or there is a fault,
-- the jobs are unchanged
abbrev pub AddsJob : ℕ → ℕ → List Job → List ℕ → Result Unit JobFault → List Job → Type 0
AddsJob tables parts old line (Ok done) new = (job : Job) × (job_of tables parts old line ≡ Ok job) × (new ≡ old ++ job ∷ [])
AddsJob tables parts old line (Err Memory) new = new ≡ old
AddsJob tables parts old line (Err fault) new = (job_of tables parts old line ≡ Err fault) × (new ≡ old)

-- the jobs that the pieces of a reader of lines spell
abbrev pub AreJobs : ℕ → ℕ → LinesValue → List Job → Type 0
AreJobs tables parts lines jobs = (pieces : List PieceValue) × CanCome lines pieces × (jobs_in tables parts [] pieces ≡ Ok jobs)

-- the first fault of the pieces of a reader of lines, unless memory ran out
abbrev pub IsFirstFault : ℕ → ℕ → LinesValue → LiveFault → Type 0
IsFirstFault tables parts lines fault =
    (pieces : List PieceValue) × CanCome lines pieces × (fault ≢ out_of_memory → jobs_in tables parts [] pieces ≡ Err fault)
