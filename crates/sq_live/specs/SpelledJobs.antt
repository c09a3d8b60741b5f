-- What the jobs of an input are, and what each fault says of its line, in the words of the lines.
use Rattle.std.specs.Prelude.{◌≡◌, ◌<◌, ◌≤◌, ◌+◌, ◌⊎◌, ℕ, List, ◌∷◌, ◌++◌, length, Contains, Ok, Err, Some}
use Rattle.std.specs.List.{AllZip}
use Rattle.sq_schema.specs.TxnValue.{TxnValue}
use Rattle.sq_schema.specs.declared.fault.TxnFault.{TxnFault}
use Rattle.sq_audit.specs.declared.job.Job.{Job}
use Rattle.sq_audit.specs.Answers.{IdsDiffer}
use Rattle.sq_text.specs.declared.reader.TheConstants.{MAX_LINES}
use Rattle.sq_text.specs.Pieces.{PieceValue, Line, Rest, Failed, Endless, TooMany as TooManyLines}
use Rattle.sq_model.specs.declared.step.Step.TheVariants.{Submit}
use Rattle.sq_text.specs.declared.fault.LineFault.TheVariants as spelled
use Rattle.sq_text.specs.declared.input_fault.InputFault.TheVariants as input
use Rattle.sq_text.specs.declared.located.InputLine.TheVariants.{Later}
use Rattle.sq_text.specs.declared.step.TheConstants.{MAX_LINE}
use Rattle.sq_text.specs.Located.{located}
use Rattle.sq_text.specs.Steps.{step_of}
use Rattle.sq_live.specs.declared.job_list.TheConstants.{MAX_JOBS}
use Rattle.sq_live.specs.declared.fault.JobFault.{JobFault}
use Rattle.sq_live.specs.declared.fault.JobFault.TheVariants.{TooMany, NotAJob, RepeatedId, Txn, NoSuchPartition, LineTooLong, Memory}
use Rattle.sq_live.specs.declared.fault.LiveFault.{LiveFault}
use Rattle.sq_live.specs.declared.fault.LiveFault.TheVariants.{Input}
use Rattle.sq_live.specs.Faults.{fault_at}
use Rattle.sq_live.specs.Jobs.{HavePartitions}

-- the line spells `txn` for partition `part`, and schemas of `tables` tables have it
abbrev pub SpellsTxn : ℕ → List ℕ → ℕ → TxnValue → Type 0
SpellsTxn tables line part txn = step_of tables line ≡ Ok (Submit part txn)

-- the line spells a transaction that no schema of `tables` tables has
abbrev pub SpellsFaulty : ℕ → List ℕ → TxnFault → Type 0
SpellsFaulty tables line fault = step_of tables line ≡ Err (spelled.Txn fault)

-- the line has the form of a transaction
abbrev pub IsOfTxn : ℕ → List ℕ → Type 0
IsOfTxn tables line =
    ((part : ℕ) × (txn : TxnValue) × SpellsTxn tables line part txn) ⊎ ((fault : TxnFault) × SpellsFaulty tables line fault)

-- the piece is a line, and spells this job
abbrev pub IsJobLine : ℕ → PieceValue → Job → Type 0
IsJobLine tables (Line number bytes) job = SpellsTxn tables bytes job.part job.txn
IsJobLine tables piece job = ⊥

-- the pieces are lines that spell these jobs, one each: for existing partitions, with different
-- ids, and at most MAX_JOBS of them
pub record SpellJobs (tables parts : ℕ) (pieces : List PieceValue) (jobs : List Job) : Type 0 where
  pub lines : AllZip (IsJobLine tables) pieces jobs
  pub partitions : HavePartitions parts jobs
  pub differ : IdsDiffer jobs
  pub few : length jobs ≤ MAX_JOBS

-- what a fault says of a line after the lines of `jobs`; a line has the first of these faults, in
-- this order
abbrev pub SaysOfLine : ℕ → ℕ → List Job → List ℕ → JobFault → Type 0
SaysOfLine tables parts jobs line LineTooLong = MAX_LINE < length line
SaysOfLine tables parts jobs line NotAJob = (length line ≤ MAX_LINE) × (IsOfTxn tables line → ⊥)
SaysOfLine tables parts jobs line TooMany = IsOfTxn tables line × (length jobs ≡ MAX_JOBS)
SaysOfLine tables parts jobs line (Txn fault) = SpellsFaulty tables line fault × (length jobs < MAX_JOBS)
SaysOfLine tables parts jobs line NoSuchPartition =
    (part : ℕ) × (txn : TxnValue) × SpellsTxn tables line part txn × (length jobs < MAX_JOBS) × (parts ≤ part)
SaysOfLine tables parts jobs line RepeatedId =
    (job earlier : Job) × SpellsTxn tables line job.part job.txn × (length jobs < MAX_JOBS) × (job.part < parts)
    × Contains jobs earlier × (earlier.txn.id ≡ job.txn.id)
SaysOfLine tables parts jobs line Memory = ⊥

-- the fault is that of a piece after the lines of `jobs`
abbrev pub IsFaultOf : ℕ → ℕ → List Job → PieceValue → LiveFault → Type 0
IsFaultOf tables parts jobs (Line number bytes) told =
    (fault : JobFault) × SaysOfLine tables parts jobs bytes fault × (told ≡ fault_at number fault)
IsFaultOf tables parts jobs (Rest number bytes) told = told ≡ fault_at number NotAJob
IsFaultOf tables parts jobs (Failed number bytes) told = told ≡ Input (located input.ReadFailed (Some (Later number)))
IsFaultOf tables parts jobs (Endless number bytes) told = told ≡ Input (located input.TooLong (Some (Later number)))
IsFaultOf tables parts jobs TooManyLines told = told ≡ Input (located input.TooLong (Some (Later (MAX_LINES + 1))))

-- the lines before one piece spell jobs, and this is the fault of that piece
pub record EndInFault (tables parts : ℕ) (pieces : List PieceValue) (told : LiveFault) : Type 0 where
  pub before : List PieceValue
  pub jobs : List Job
  pub piece : PieceValue
  pub others : List PieceValue
  pub are : pieces ≡ before ++ piece ∷ others
  pub spell : SpellJobs tables parts before jobs
  pub is_its : IsFaultOf tables parts jobs piece told
