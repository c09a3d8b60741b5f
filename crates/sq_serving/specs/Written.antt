-- What is written in an epoch.
use Rattle.std.specs.Prelude.{◌≡◌, ℕ, ◌<◌, ◌≤◌, ◌==◌, false, if◌then◌else◌, List, [], ◌∷◌, ◌++◌, length, map, Option}
use Rattle.std.specs.List.{flat_map, range_with_len}
use Rattle.std.specs.Io.KnownBytes.{Appends}
use Rattle.sq_node_model.specs.NodeValue.{ReceiptValue}
use Rattle.sq_node.specs.NodeState.{NodeState}
use Rattle.sq_audit.specs.declared.job.Job.{Job}
use Rattle.sq_engine.specs.declared.open_jobs.PostFault.{PostFault}
use Rattle.sq_engine.specs.declared.open_jobs.PostFault.TheVariants as fault
use Rattle.sq_serving.specs.declared.line_place.LinePlace.{LinePlace}
use Rattle.sq_engine.specs.declared.event.Event.{Event}
use Rattle.sq_engine.specs.declared.event.Event.TheVariants.{Posts, Refuses, Answers, Drops, Loses, Rests, Ends, MovesTo}
use Rattle.sq_engine.specs.declared.serving.EpochEnd.{EpochEnd}
use Rattle.sq_engine.specs.Events.{answers_in, given_from}
use Rattle.sq_engine.specs.Values.{EngineValue}
use Rattle.sq_engine.specs.Serving.{AllArrive}
use Rattle.sq_engine.specs.Engine.{AddsEpoch}
use Rattle.sq_serving.specs.Receipts.{receipt_line, Interleaves}
use Rattle.sq_serving.specs.declared.feed.Fed.{Fed}
use Rattle.sq_serving.specs.declared.desk.AskedTxn.{AskedTxn}
use Rattle.sq_serving.specs.declared.desk.MoveProgress.{MoveProgress}
use Rattle.sq_serving.specs.Saying.{OtherLine, Answered, other_line}
use Rattle.sq_serving.specs.Sides.{waiting_at}
use Rattle.sq_serving.specs.InputEnds.{LearnsEnd}
use Rattle.sq_serving.specs.Settling.{Standing, CountsAnswer, WishChange, Changes, refusal_of, SettlesEach}
use Rattle.sq_serving.specs.Becoming.{ServeDeskValue, asked_by, jobs_for}

-- a line that was written: of a receipt of a partition, or another line
pub data SaidLine : Type 0 where
  OfReceipt : (part : ℕ) → (receipt : ReceiptValue) → SaidLine
  Other : (line : OtherLine) → SaidLine

abbrev pub said_line : SaidLine → List ℕ
said_line (OfReceipt part receipt) = receipt_line receipt
said_line (Other line) = other_line line

abbrev pub receipt_at : ℕ → SaidLine → List ReceiptValue
receipt_at part (OfReceipt from receipt) = if from == part then receipt ∷ [] else []
receipt_at part (Other line) = []

-- the receipts of a partition whose lines were written, in their order
abbrev pub told_from : ℕ → List SaidLine → List ReceiptValue
told_from part said = flat_map (receipt_at part) said

abbrev pub receipt_said : SaidLine → List ReceiptValue
receipt_said (OfReceipt part receipt) = receipt ∷ []
receipt_said (Other line) = []

-- the receipts of all partitions whose lines were written, in their order
abbrev pub receipts_said : List SaidLine → List ReceiptValue
receipts_said said = flat_map receipt_said said

-- for each of the partitions, the answers that were given of it
abbrev pub given_by_parts : ℕ → List Event → List (List ReceiptValue)
given_by_parts parts events = map (λ part. given_from part events) (range_with_len 0 parts)

abbrev pub settled_job : Event → List Job
settled_job (Posts job) = job ∷ []
settled_job (Refuses job fault.QueueFull) = []
settled_job (Refuses job fault.NoSuchPartition) = job ∷ []
settled_job (Refuses job fault.RepeatedId) = job ∷ []
settled_job (Refuses job fault.Memory) = job ∷ []
settled_job _ = []

-- the jobs that were posted, or refused for a reason other than a full queue, in their order
abbrev pub settled_in : List Event → List Job
settled_in events = flat_map settled_job events

-- the jobs of a partition that were asked for, without the places of their lines
abbrev pub as_jobs : ℕ → List AskedTxn → List Job
as_jobs part asked = map (λ (a : AskedTxn). record { part = part; txn = a.txn }) asked

-- the jobs of a partition that wait
abbrev pub jobs_waiting : List (List AskedTxn) → ℕ → List Job
jobs_waiting waiting part = as_jobs part (waiting_at waiting part)

-- the jobs of a partition that were asked for by what was handed on
abbrev pub jobs_asked : ℕ → List Fed → List Job
jobs_asked part more = as_jobs part (flat_map (asked_by part) more)

-- in these events a desk wrote the line of each answer that it was given, once, in the order of
-- the events, and other lines; and for each partition the jobs that waited, and those
-- that were asked for, are in this order those that were posted or refused, and those that wait; or
-- else nothing more can be done
pub record WritesEach (events : List Event) (old new : ServeDeskValue) : Type 0 where
  pub goes_on : new.has_stopped ≡ false → old.has_stopped ≡ false
  pub writes_on : new.has_failed ≡ false → old.has_failed ≡ false
  pub said : List SaidLine
  pub written : new.has_failed ≡ false → Appends old.written new.written (flat_map said_line said)
  pub answers : receipts_said said ≡ answers_in events
  pub told : (part : ℕ) → told_from part said ≡ given_from part events
  pub more : List Fed
  pub heard : new.heard ≡ old.heard ++ more
  pub count : length new.waiting ≡ length old.waiting
  pub jobs : new.has_stopped ≡ false → (part : ℕ) → part < length old.waiting
      → jobs_waiting old.waiting part ++ jobs_asked part more
      ≡ jobs_for part (settled_in events) ++ jobs_waiting new.waiting part
  pub strict : new.has_stopped ≡ false → new.is_strict ≡ old.is_strict
  pub ended : new.has_stopped ≡ false → LearnsEnd old.is_strict more old.ended new.ended

abbrev pub other_said : SaidLine → List OtherLine
other_said (OfReceipt part receipt) = []
other_said (Other line) = line ∷ []

-- the lines that aren't of receipts, in their order
abbrev pub others_in : List SaidLine → List OtherLine
others_in said = flat_map other_said said

-- what was heard, the lines that were written of it, and how the wishes changed
pub record Settlement : Type 0 where
  pub heard : List Fed
  pub lines : List OtherLine
  pub changes : List WishChange

abbrev pub settles_nothing : Settlement
settles_nothing = record { heard = []; lines = []; changes = [] }

-- two settlements, one after the other
abbrev pub settled_both : Settlement → Settlement → Settlement
settled_both first more =
    record { heard = first.heard ++ more.heard; lines = first.lines ++ more.lines; changes = first.changes ++ more.changes }

-- the line that is written of a job that isn't posted: its refusal, unless its queue is full
abbrev pub AnswersReturned : ℕ → Job → PostFault → List OtherLine → Type 0
AnswersReturned parts job fault.QueueFull lines =
    (job.part < parts → lines ≡ []) × (parts ≤ job.part → (place : LinePlace) × (lines ≡ Answered (refusal_of 219 place job.txn) ∷ []))
AnswersReturned parts job fault.NoSuchPartition lines = (place : LinePlace) × (lines ≡ Answered (refusal_of 219 place job.txn) ∷ [])
AnswersReturned parts job fault.RepeatedId lines = (place : LinePlace) × (lines ≡ Answered (refusal_of 127 place job.txn) ∷ [])
AnswersReturned parts job fault.Memory lines = ⊥

-- what was heard is settled, for some progress of a move
abbrev pub SettlesHeard : ℕ → Standing → Settlement → Type 0
SettlesHeard parts standing all = (moving : Option MoveProgress) × SettlesEach parts moving standing all.heard all.lines all.changes

-- what was heard is settled, and then the job that isn't posted
pub record SettlesReturned (parts : ℕ) (standing : Standing) (job : Job) (why : PostFault) (all : Settlement) : Type 0 where
  pub own : List OtherLine
  pub settled : SettlesHeard parts standing (record all { lines = own })
  pub refusal : List OtherLine
  pub answers : AnswersReturned parts job why refusal
  pub lines : all.lines ≡ own ++ refusal

-- what an event settles: an answer counts for what a desk tells of
abbrev pub SettlesEvent : ℕ → Standing → Event → Settlement → Standing → Type 0
SettlesEvent parts old (Answers part receipt) all new = (all ≡ settles_nothing) × CountsAnswer old new
SettlesEvent parts old (Drops part receipt) all new = (all ≡ settles_nothing) × (new ≡ old)
SettlesEvent parts old Loses all new = (all ≡ settles_nothing) × (new ≡ old)
SettlesEvent parts old (MovesTo plan) all new = (all ≡ settles_nothing) × (new ≡ old)
SettlesEvent parts old (Posts job) all new = SettlesHeard parts old all × (new ≡ old)
SettlesEvent parts old (Refuses job why) all new = SettlesReturned parts old job why all × (new ≡ old)
SettlesEvent parts old Rests all new = SettlesHeard parts old all × (new ≡ old)
SettlesEvent parts old Ends all new = SettlesHeard parts old all × (new ≡ old)

-- what events settle, one after another
abbrev pub SettlesAll : ℕ → Standing → List Event → Settlement → Standing → Type 0
SettlesAll parts first [] all last = (all ≡ settles_nothing) × (last ≡ first)
SettlesAll parts first (event ∷ events) all last =
    (now : Settlement) × (later : Settlement) × (next : Standing)
    × SettlesEvent parts first event now next × SettlesAll parts next events later last × (all ≡ settled_both now later)

-- in these events a desk wrote what it was given, and each line that it heard is settled: by
-- exactly one line that was written, by a job, or by a wish that is kept or dropped; each job that was refused
-- is settled by exactly one line; and no other line was written
pub record AnswersEach (events : List Event) (old new : ServeDeskValue) : Type 0 where
  pub writes : WritesEach events old new
  pub changes : List WishChange
  pub wishes : new.has_stopped ≡ false → Changes old.wishes changes new.wishes
  pub settled : new.has_stopped ≡ false
      → SettlesAll (length old.waiting) old.standing events (record { heard = writes.more; lines = others_in writes.said; changes = changes }) new.standing

-- in an epoch that began with these nodes a desk wrote the answers that arrived of them
pub record ServesEpoch (events : List Event) (nodes : List NodeState) (before after : ServeDeskValue) : Type 0 where
  pub writes : WritesEach events before after
  pub driven : List NodeState
  pub arrive : AllArrive events nodes driven

-- the receipts whose lines were written are an interleaving of those that were given of each of the
-- partitions
abbrev pub WritesInterleaved : ℕ → List Event → List SaidLine → Type 0
WritesInterleaved parts events said = Interleaves (given_by_parts parts events) (receipts_said said)

-- an engine went to an epoch, in which events were added and a desk wrote what it was given and
-- settled each line; then the engine went on
pub record EpochIsWritten (old : EngineValue) (before : ServeDeskValue) (end : EpochEnd) (new : EngineValue) (after : ServeDeskValue) : Type 0 where
  pub more : List Event
  pub epoch : AddsEpoch more end old new
  pub answers : AnswersEach more before after
