-- What the answer to a step says of the history before it: who ran what, and how far the move was.
use Rattle.std.specs.Prelude.{◌≡◌, ◌≢◌, ◌<◌, ◌≤◌, ◌⊎◌, ℕ, true, false, length, slice_get, Contains, Some, None}
use Rattle.sq_schema.specs.TxnValue.{TxnValue}
use Rattle.sq_schema.specs.Effect.{reply}
use Rattle.sq_schema.specs.declared.txn.Reply.{Reply}
use Rattle.sq_moves.specs.declared.status.Status.TheVariants.{Free, Claimed, Partial}
use Rattle.sq_moves.specs.Status.{is_live, reading}
use Rattle.sq_store.specs.declared.chunk.Note.{Note}
use Rattle.sq_store.specs.ChunkValue.{covers}
use Rattle.sq_moves.specs.declared.opening.TheConstants.{MAX_WAITING}
use Rattle.sq_moves.specs.declared.recon.Range.{Range}
use Rattle.sq_moves.specs.ReconValue.{stage_in}
use Rattle.sq_moves.specs.OpeningValue.{OpeningValue}
use Rattle.sq_model.specs.declared.step.Step.{Step}
use Rattle.sq_model.specs.declared.step.Step.TheVariants.{Prepare, Start, Submit, Resume, Split, Claim, Begin, Cut, Push, Pop, Load, Complete, Report, Next, Finish, Status, Fold}
use Rattle.sq_model.specs.declared.answer.Answer.{Answer}
use Rattle.sq_model.specs.declared.answer.Answer.TheVariants.{Done, Replied, Moved, Waits, Resumed, WasCut, WasLoaded, Reads, Refused}
use Rattle.sq_model.specs.declared.answer.Refusal.TheVariants.{NoSuchPartition, WaitFull, LogFull, NoneReady, Memory}
use Rattle.sq_model.specs.Trace.{Trace, stage, notes, loads, cut_count, push_count, pop_count, load_count}
use Rattle.sq_model.specs.Leader.{is_started, is_ended, is_prepared}
use Rattle.sq_model.specs.Nodes.{Item, status_of, items}
use Rattle.sq_model.specs.Tables.{now, is_full}
use Rattle.sq_model.specs.Place.{At, place, destination, runner, is_coming, is_covered}
use Rattle.sq_model.specs.Links.{has_last, family_count}
use Rattle.sq_model.specs.Waiting.{waiting}
use Rattle.sq_model.specs.Answers.{is_into, is_complete_segment}

-- the transaction ran at the partition, which runs those on its root key, on the rows that the one
-- table had
pub record RanAt (o : OpeningValue) (t : Trace) (part : ℕ) (txn : TxnValue) (told : Reply) : Type 0 where
  pub here : runner o t txn.root ≡ Some part
  pub rows : told ≡ reply (now o t txn.root) txn

-- another partition runs transactions on the root key; or none does, and `to` is its owner by the
-- new plan
abbrev pub IsSentTo : OpeningValue → Trace → ℕ → ℕ → ℕ → Type 0
IsSentTo o t part root to =
    ((runner o t root ≡ Some to) × (to ≢ part)) ⊎ ((runner o t root ≡ None) × (to ≡ destination o root))

-- the rows of the root key are on their way to the partition, or a transaction on it waits there
abbrev pub HasToWait : OpeningValue → Trace → ℕ → ℕ → Type 0
HasToWait o t part root =
    (is_coming o t part root ≡ true) ⊎ ((other : TxnValue) × Contains (waiting o t part) other × (other.root ≡ root))

-- what the answer to a transaction says that is submitted at a partition
abbrev pub SaysOfSubmit : OpeningValue → Trace → ℕ → TxnValue → Answer → Type 0
SaysOfSubmit o t part txn (Replied id told) = (id ≡ txn.id) × RanAt o t part txn told
SaysOfSubmit o t part txn (Moved id to) = (id ≡ txn.id) × IsSentTo o t part txn.root to
SaysOfSubmit o t part txn (Waits id seg leaf) = (id ≡ txn.id) × HasToWait o t part txn.root
SaysOfSubmit o t part txn (Refused NoSuchPartition) = o.old.parts ≤ part
SaysOfSubmit o t part txn (Refused WaitFull) = HasToWait o t part txn.root × (MAX_WAITING ≤ length (waiting o t part))
SaysOfSubmit o t part txn (Refused LogFull) = (runner o t txn.root ≡ Some part) × (is_full o t txn.root ≡ true)
SaysOfSubmit o t part txn (Refused Memory) = Unit {0}
SaysOfSubmit o t part txn given = ⊥

-- a waiting transaction's rows are on their way, or the log of its root key is full
abbrev pub CannotRun : OpeningValue → Trace → ℕ → TxnValue → Type 0
CannotRun o t part txn = (is_coming o t part txn.root ≡ true) ⊎ (is_full o t txn.root ≡ true)

-- what the answer says if a waiting transaction is to run
abbrev pub SaysOfResume : OpeningValue → Trace → ℕ → Answer → Type 0
SaysOfResume o t part (Resumed txn told) =
    Contains (waiting o t part) txn × (is_coming o t part txn.root ≡ false) × RanAt o t part txn told
SaysOfResume o t part (Refused NoSuchPartition) = o.old.parts ≤ part
SaysOfResume o t part (Refused NoneReady) = (txn : TxnValue) → Contains (waiting o t part) txn → is_coming o t part txn.root ≡ true
SaysOfResume o t part (Refused LogFull) = (txn : TxnValue) → Contains (waiting o t part) txn → CannotRun o t part txn
SaysOfResume o t part (Refused Memory) = Unit {0}
SaysOfResume o t part given = ⊥

-- the chunk is the next one of its link, of a node that was begun, and no chunk before it had one
-- of its keys
pub record IsNextChunk (o : OpeningValue) (t : Trace) (src dst : ℕ) (note : Note) (families : ℕ) : Type 0 where
  pub source : note.src ≡ src
  pub destination : note.dst ≡ dst
  pub number : note.number ≡ cut_count t src dst
  pub item : Item
  pub begun : Contains (items t) item
  pub of : (item.seg ≡ note.seg) × (item.node ≡ note.node)
  pub once : (root : ℕ) → covers note root ≡ true → is_covered (notes t) root ≡ false
  pub holds : families ≡ family_count o t note

-- the chunk is the first of its link that isn't loaded, and none of its keys is loaded
pub record IsNextLoad (o : OpeningValue) (t : Trace) (src dst : ℕ) (note : Note) (families : ℕ) : Type 0 where
  pub cut : Contains (notes t) note
  pub source : note.src ≡ src
  pub destination : note.dst ≡ dst
  pub number : note.number ≡ load_count t src dst
  pub once : (root : ℕ) → covers note root ≡ true → is_covered (loads t) root ≡ false
  pub holds : families ≡ family_count o t note

-- what it means that a step was done; the steps of transactions and of chunks have answers of their
-- own
abbrev pub SaysDone : OpeningValue → Trace → Step → Type 0
SaysDone o t (Prepare part) = (part < o.old.parts) × (is_started t ≡ false)
SaysDone o t Start = (is_started t ≡ false) × ((part : ℕ) → part < o.old.parts → is_prepared t part ≡ true)
SaysDone o t (Split seg node) = (is_live (status_of t seg) node ≡ true) × (status_of t seg node ≡ Free)
SaysDone o t (Claim seg node pull) = (is_live (status_of t seg) node ≡ true) × (status_of t seg node ≡ Free)
SaysDone o t (Begin seg node pull) = status_of t seg node ≡ Claimed pull
SaysDone o t (Push src dst) = cut_count t src dst ≢ push_count t src dst
SaysDone o t (Pop src dst) = pop_count t src dst ≢ push_count t src dst
SaysDone o t (Complete seg node pull) = (status_of t seg node ≡ Partial pull) × (has_last seg node (loads t) ≡ true)
SaysDone o t (Report part) =
    (seg : ℕ) → seg < length o.recon.segments → is_into o t part seg ≡ true → is_complete_segment t seg ≡ true
SaysDone o t Next =
    (seg : ℕ) (segment : Range) → slice_get o.recon.segments seg ≡ Some segment → stage_in o.recon segment ≡ stage t
    → is_complete_segment t seg ≡ true
SaysDone o t Finish = (root : ℕ) → place o t root ≡ At (destination o root)
SaysDone o t (Fold part) = (part < o.old.parts) × (is_ended t ≡ true)
SaysDone o t step = ⊥

-- what the answer to a step says; the refusal of any other step says nothing here
abbrev pub SaysOfStep : OpeningValue → Trace → Step → Answer → Type 0
SaysOfStep o t (Submit part txn) given = SaysOfSubmit o t part txn given
SaysOfStep o t (Resume part) given = SaysOfResume o t part given
SaysOfStep o t step Done = SaysDone o t step
SaysOfStep o t (Cut src dst) (WasCut note families) = IsNextChunk o t src dst note families
SaysOfStep o t (Load src dst) (WasLoaded note families) = IsNextLoad o t src dst note families
SaysOfStep o t (Status seg node) (Reads status read) = (status ≡ status_of t seg node) × (read ≡ reading (status_of t seg) node)
SaysOfStep o t step (Refused refusal) = Unit {0}
SaysOfStep o t step given = ⊥
