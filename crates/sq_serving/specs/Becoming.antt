-- What a call makes of a desk.
use Rattle.std.specs.Prelude.{◌≡◌, ◌⊎◌, ℕ, ◌<◌, ◌≤◌, ◌==◌, ◌||◌, Bool, true, false, if◌then◌else◌, List, [], ◌∷◌, ◌++◌, length, map, filter, Option, Some, None, option_map, is_some, Ok, Err}
use Rattle.std.specs.List.{flat_map}
use Rattle.std.specs.Io.KnownBytes.{Appends}
use Rattle.rtrb.specs.Ring.{received}
use Rattle.sq_node_model.specs.NodeValue.{ReceiptValue}
use Rattle.sq_audit.specs.declared.job.Job.{Job}
use Rattle.sq_engine.specs.declared.open_jobs.PostFault.{PostFault}
use Rattle.sq_engine.specs.declared.open_jobs.PostFault.TheVariants as fault
use Rattle.sq_engine.specs.declared.client.Command.{Command}
use Rattle.sq_engine.specs.declared.client.Command.TheVariants.{Post, Rest, End}
use Rattle.sq_engine.specs.declared.stage_progress.StageProgress.{StageProgress}
use Rattle.sq_engine.specs.Clients.{ClientCall, Asked, Told, Returned}
use Rattle.sq_plan.specs.PlanValue.{PlanValue, owner}
use Rattle.sq_text.specs.Texts.{refused_line}
use Rattle.sq_serving.specs.declared.line_place.LinePlace.{LinePlace}
use Rattle.sq_serving.specs.declared.line_place.LineSource.TheVariants.{Input}
use Rattle.sq_serving.specs.declared.serve_line.ServeLine.{ServeLine}
use Rattle.sq_serving.specs.declared.serve_line.ServeLine.TheVariants as asks
use Rattle.sq_serving.specs.declared.serve_answer.ServeAnswer.{ServeAnswer}
use Rattle.sq_serving.specs.declared.serve_answer.ServeAnswer.TheVariants.{Queued, Dropped, NothingQueued, Owner}
use Rattle.sq_serving.specs.ServeAnswers.{serve_answer_line, status_line, json_line, HasNoLineEnd, IsJsonLine}
use Rattle.sq_serving.specs.Receipts.{receipt_line}
use Rattle.sq_serving.specs.declared.feed.Fed.{Fed}
use Rattle.sq_serving.specs.declared.feed.Fed.TheVariants as fed
use Rattle.sq_serving.specs.declared.desk.AskedMove.{AskedMove}
use Rattle.sq_serving.specs.declared.desk.AskedTxn.{AskedTxn}
use Rattle.sq_serving.specs.declared.desk.ServeDesk.{ServeDesk}
use Rattle.sq_serving.specs.declared.desk.MoveProgress.{MoveProgress}
use Rattle.sq_serving.specs.declared.desk.Wish.{Wish}
use Rattle.sq_serving.specs.declared.desk.Wish.TheVariants as wish
use Rattle.sq_serving.specs.declared.ending.InputOutcome.{InputOutcome}
use Rattle.sq_serving.specs.InputEnds.{KeepsEnd, LearnsEnd}
use Rattle.sq_serving.specs.declared.outlet.Outlet.{Outlet}
use Rattle.sq_serving.specs.Saying.{OtherLine, other_line}
use Rattle.sq_serving.specs.Settling.{Standing, CountsAnswer, WishChange, Changes, line_wish, refusal_of, IsStatus, SettlesEach}
use Rattle.sq_serving.specs.Sides.{waiting_at}

-- a desk: what its writer holds, if that is known; whether a write failed; whether nothing more can
-- be done, for that or for want of memory; what was handed on to it; for each partition the jobs that wait, with the places of their lines; the place
-- of the line of the job that was offered last; the wishes of lines that are to be fulfilled
-- between epochs, in their order, moves that wait among them; the progress of a move; what it tells of; whether its input is strict; and how
-- that ended, once no more lines are taken
pub record ServeDeskValue : Type 0 where
  pub written : Option (List ℕ)
  pub has_failed : Bool
  pub has_stopped : Bool
  pub heard : List Fed
  pub waiting : List (List AskedTxn)
  pub offered_at : LinePlace
  pub wishes : List Wish
  pub moving : Option MoveProgress
  pub standing : Standing
  pub is_strict : Bool
  pub ended : Option InputOutcome

abbrev pub desk_value : {W : Type 0} → (W → Option (List ℕ)) → ServeDesk W → ServeDeskValue
desk_value contents desk =
    record {
      written = contents desk.outlet.writer;
      has_failed = desk.outlet.has_failed;
      has_stopped = desk.lacks_memory || desk.outlet.has_failed;
      heard = received desk.feed;
      waiting = desk.sides;
      offered_at = desk.offered_at;
      wishes = line_wish desk.wish ++ (line_wish desk.next_wish ++ map wish.Move desk.queue);
      moving = desk.moving;
      standing = record { plan = desk.plan; answered = desk.counts.answered };
      is_strict = desk.config.is_strict;
      ended = desk.end;
    }

-- a desk before its first call: it has written what the outlet holds, and `heard` was handed on to
-- it, the jobs in `waiting` wait, this plan is in force, and its input is strict or not
abbrev pub new_desk : {W : Type 0} → (W → Option (List ℕ)) → Outlet W → List Fed → List (List AskedTxn) → PlanValue → Bool → ServeDeskValue
new_desk contents outlet heard waiting plan strict =
    record {
      written = contents outlet.writer;
      has_failed = outlet.has_failed;
      has_stopped = outlet.has_failed;
      heard = heard;
      waiting = waiting;
      offered_at = record { source = Input; line = 0 };
      wishes = [];
      moving = None;
      standing = record { plan = plan; answered = 0 };
      is_strict = strict;
      ended = None;
    }

-- the job that a line at a place asks for, if it asks for one of this partition
abbrev pub job_asked : ℕ → LinePlace → ServeLine → List AskedTxn
job_asked part place (asks.Job to txn) = if to == part then record { place = place; txn = txn } ∷ [] else []
job_asked part place (asks.Move plan) = []
job_asked part place asks.Fold = []
job_asked part place asks.Status = []
job_asked part place asks.Rows = []
job_asked part place (asks.RowsTo name) = []
job_asked part place asks.Plan = []
job_asked part place asks.StatusJson = []
job_asked part place asks.Pause = []
job_asked part place asks.Resume = []
job_asked part place (asks.Pumps count) = []
job_asked part place (asks.Chunk bytes) = []
job_asked part place asks.Drop = []
job_asked part place (asks.Owner root) = []

abbrev pub asked_by : ℕ → Fed → List AskedTxn
asked_by part (fed.Line place (Ok asks)) = job_asked part place asks
asked_by part (fed.Line place (Err faulty)) = []
asked_by part (fed.End end) = []

-- the jobs of one partition, in their order
abbrev pub jobs_for : ℕ → List Job → List Job
jobs_for part jobs = filter (λ job. job.part == part) jobs

-- the same, asked for by a line at this place
abbrev pub asked_at : LinePlace → ℕ → List Job → List AskedTxn
asked_at place part jobs = map (λ (job : Job). record { place = place; txn = job.txn }) (jobs_for part jobs)

-- `more` was handed on, and the jobs `back` were returned: other lines were written, unless a write
-- failed; unless nothing more can be done, each line that was handed on is settled, by one of them
-- or a wish that is kept or dropped, and no other line was written; and for each partition the jobs that were returned, those that waited,
-- and those that were asked for are, in this order, those that were offered and those that wait
pub record Handles (more : List Fed) (back : List Job) (old : ServeDeskValue) (offered : List Job) (new : ServeDeskValue) : Type 0 where
  pub goes_on : new.has_stopped ≡ false → old.has_stopped ≡ false
  pub writes_on : new.has_failed ≡ false → old.has_failed ≡ false
  pub others : List OtherLine
  pub written : new.has_failed ≡ false → Appends old.written new.written (flat_map other_line others)
  pub changes : List WishChange
  pub wishes : new.has_stopped ≡ false → Changes old.wishes changes new.wishes
  pub settled : new.has_stopped ≡ false → SettlesEach (length old.waiting) old.moving old.standing more others changes
  pub count : length new.waiting ≡ length old.waiting
  pub moving : new.moving ≡ old.moving
  pub standing : new.has_stopped ≡ false → new.standing ≡ old.standing
  pub strict : new.has_stopped ≡ false → new.is_strict ≡ old.is_strict
  pub ended : new.has_stopped ≡ false → LearnsEnd old.is_strict more old.ended new.ended
  pub jobs : new.has_stopped ≡ false → (part : ℕ) → part < length old.waiting
      → (asked_at old.offered_at part back ++ waiting_at old.waiting part) ++ flat_map (asked_by part) more
      ≡ asked_at new.offered_at part offered ++ waiting_at new.waiting part

-- the same of what was heard meanwhile
pub record Hears (back : List Job) (old : ServeDeskValue) (offered : List Job) (new : ServeDeskValue) : Type 0 where
  pub more : List Fed
  pub heard : new.heard ≡ old.heard ++ more
  pub handles : Handles more back old offered new

-- other lines were written, and no job, line or answer was taken
pub record Speaks (old new : ServeDeskValue) : Type 0 where
  pub goes_on : new.has_stopped ≡ false → old.has_stopped ≡ false
  pub writes_on : new.has_failed ≡ false → old.has_failed ≡ false
  pub others : List OtherLine
  pub written : new.has_failed ≡ false → Appends old.written new.written (flat_map other_line others)
  pub heard : new.heard ≡ old.heard
  pub waiting : new.waiting ≡ old.waiting
  pub answered : new.standing.answered ≡ old.standing.answered
  pub strict : new.is_strict ≡ old.is_strict
  pub ended : KeepsEnd old.is_strict old.ended new.ended

-- these bytes were written, and nothing else changed, but that a strict input may have ended
pub record WritesBytes (bytes : List ℕ) (old new : ServeDeskValue) : Type 0 where
  pub goes_on : new.has_stopped ≡ false → old.has_stopped ≡ false
  pub writes_on : new.has_failed ≡ false → old.has_failed ≡ false
  pub written : new.has_failed ≡ false → Appends old.written new.written bytes
  pub heard : new.heard ≡ old.heard
  pub waiting : new.waiting ≡ old.waiting
  pub offered_at : new.offered_at ≡ old.offered_at
  pub wishes : new.wishes ≡ old.wishes
  pub moving : new.moving ≡ old.moving
  pub standing : new.standing ≡ old.standing
  pub strict : new.is_strict ≡ old.is_strict
  pub ended : KeepsEnd old.is_strict old.ended new.ended

-- just the line of a receipt was written, and one more answer is counted
abbrev pub WritesReceipt : ReceiptValue → ServeDeskValue → ServeDeskValue → Type 0
WritesReceipt receipt old new =
    (counted : Standing) × CountsAnswer old.standing counted × WritesBytes (receipt_line receipt) (record old { standing = counted }) new

-- nothing more can be done, and nothing was written
pub record Stops (old new : ServeDeskValue) : Type 0 where
  pub stopped : new.has_stopped ≡ true
  pub failed : new.has_failed ≡ old.has_failed
  pub written : new.written ≡ old.written
  pub heard : new.heard ≡ old.heard
  pub waiting : new.waiting ≡ old.waiting
  pub moving : new.moving ≡ old.moving

-- a move to a plan, with chunks of at most `limit` bytes, that a line at a place asks for
abbrev pub asked_move : LinePlace → PlanValue → ℕ → AskedMove
asked_move place plan limit = record { place = place; plan = plan; limit = limit }

-- the wish of a line was kept, and nothing else changed
abbrev pub KeepsWish : Wish → ServeDeskValue → ServeDeskValue → Type 0
KeepsWish wish old new = new ≡ record old { wishes = old.wishes ++ wish ∷ [] }

-- a move is kept until rows rest, as the last of so many, and one line reports that
abbrev pub QueuesMove : AskedMove → ℕ → ServeDeskValue → ServeDeskValue → Type 0
QueuesMove asked waiting old new =
    WritesBytes (serve_answer_line (Queued waiting)) (record old { wishes = old.wishes ++ wish.Move asked ∷ [] }) new

-- the same, or nothing more can be done
abbrev pub QueuesMoveOrStops : AskedMove → ℕ → ServeDeskValue → ServeDeskValue → Type 0
QueuesMoveOrStops asked waiting old new = QueuesMove asked waiting old new ⊎ Stops old new

-- a move of a line is kept, or waits as the last of so many, or is refused
abbrev pub WantsMove : AskedMove → ℕ → ServeDeskValue → ServeDeskValue → Type 0
WantsMove asked waiting old new =
    KeepsWish (wish.Move asked) old new ⊎ (QueuesMoveOrStops asked waiting old new ⊎ WritesBytes (refused_line 217) old new)

-- a move that was kept last was dropped, so that so many wait, and one line reports that
pub record DropsMove (asked : AskedMove) (waiting : ℕ) (old new : ServeDeskValue) : Type 0 where
  pub rest : List Wish
  pub dropped : old.wishes ≡ rest ++ wish.Move asked ∷ []
  pub writes : WritesBytes (serve_answer_line (Dropped waiting)) (record old { wishes = rest }) new

-- the last of the moves that wait was dropped, or one line reports that none waits
abbrev pub DropsLast : List AskedMove → ServeDeskValue → ServeDeskValue → Type 0
DropsLast queue old new =
    ((asked : AskedMove) × (rest : List AskedMove) × (queue ≡ rest ++ asked ∷ []) × DropsMove asked (length rest) old new)
    ⊎ ((queue ≡ []) × WritesBytes (serve_answer_line NothingQueued) old new)

-- to close is wished only after the end of the input, if no line wishes anything
abbrev pub MayClose : Option Wish → ServeDeskValue → Type 0
MayClose (Some wish.Close) desk = (desk.wishes ≡ []) × (is_some desk.ended ≡ true)
MayClose (Some (wish.Move asked)) desk = Unit {0}
MayClose (Some (wish.Rows asked)) desk = Unit {0}
MayClose None desk = Unit {0}

-- a wish was taken, if there was one: the first that a line wishes, or one of the desk's own
pub record TakesWish (taken : Option Wish) (old new : ServeDeskValue) : Type 0 where
  pub wishes : old.wishes ≡ line_wish taken ++ new.wishes
  pub closes : MayClose taken old
  pub rest : new ≡ record old { wishes = new.wishes }

-- the status was written, with `unanswered` as the number of jobs without an answer, and after its
-- words figures that have no line end
abbrev pub WritesStatus : ℕ → ServeDeskValue → ServeDeskValue → Type 0
WritesStatus unanswered old new =
    (answer : ServeAnswer) × (figures : List ℕ) × IsStatus old.moving unanswered answer × HasNoLineEnd figures
    × WritesBytes (status_line answer figures) old new

-- an object of JSON was written, or `null`, on one line
abbrev pub WritesJson : ServeDeskValue → ServeDeskValue → Type 0
WritesJson old new = (text : List ℕ) × IsJsonLine text × WritesBytes (json_line text) old new

-- the owner of a root key by the plan in force was written
abbrev pub WritesOwner : ℕ → ServeDeskValue → ServeDeskValue → Type 0
WritesOwner root old new =
    WritesBytes (serve_answer_line (Owner root (owner old.standing.plan root))) old new

abbrev pub job_list : Option Job → List Job
job_list (Some job) = job ∷ []
job_list None = []

-- the job that a command offers
abbrev pub offered_by : Command → List Job
offered_by (Post job) = job ∷ []
offered_by Rest = []
offered_by End = []

-- the line of a job is answered by just its refusal
abbrev pub AnswersRefusal : ℕ → Job → ServeDeskValue → ServeDeskValue → Type 0
AnswersRefusal number job old new = WritesBytes (serve_answer_line (refusal_of number old.offered_at job.txn)) old new

-- a job whose queue is full waits again; one whose partition doesn't exist is refused
pub record WaitsOrHasNoPartition (job : Job) (old new : ServeDeskValue) : Type 0 where
  pub waits : job.part < length old.waiting → Hears (job ∷ []) old [] new
  pub refused : length old.waiting ≤ job.part → AnswersRefusal 219 job old new

-- what happens to the job that was offered last and isn't posted: it waits before the others of its
-- partition, or its line is answered by just its refusal, or nothing more can be done
abbrev pub TakesJobBack : Job → PostFault → ServeDeskValue → ServeDeskValue → Type 0
TakesJobBack job fault.QueueFull old new = WaitsOrHasNoPartition job old new
TakesJobBack job fault.NoSuchPartition old new = AnswersRefusal 219 job old new
TakesJobBack job fault.RepeatedId old new = AnswersRefusal 127 job old new
TakesJobBack job fault.Memory old new = Stops old new

-- a desk that records the progress of the stage, if rows move
abbrev pub with_stage : StageProgress → ServeDeskValue → ServeDeskValue
with_stage progress desk =
    record desk { moving = option_map (λ (moving : MoveProgress). record moving { stage = progress }) desk.moving }

-- what a call makes of a desk
abbrev pub Becomes : ServeDeskValue → ClientCall → ServeDeskValue → Type 0
Becomes old (Asked progress command) new = Hears [] (with_stage progress old) (offered_by command) new
Becomes old (Told part receipt) new = WritesReceipt receipt old new
Becomes old (Returned job fault) new = TakesJobBack job fault old new
