-- How a desk settles each line that is handed on to it: by a line that it writes, a job, or a wish
-- that it keeps or drops.
use Rattle.std.specs.Prelude.{◌≡◌, ◌⊎◌, ℕ, ◌-◌, ◌+◌, ◌<◌, ◌≤◌, ◌^◌, ◌==◌, ◌&&◌, nat_le, Bool, if◌then◌else◌, List, [], ◌∷◌, ◌++◌, Option, Some, None, Ok, Err}
use Rattle.sq_schema.specs.TxnValue.{TxnValue}
use Rattle.sq_plan.specs.PlanValue.{PlanValue, owner}
use Rattle.sq_plan.specs.Fault.{plan_fault_number}
use Rattle.sq_moves.specs.declared.opening.TheConstants.{MIN_LIMIT, MAX_LIMIT}
use Rattle.sq_serving.specs.declared.serve_answer.ServeAnswer.{ServeAnswer}
use Rattle.sq_serving.specs.declared.serve_answer.ServeAnswer.TheVariants.{Fault, Folded, AtRest, Progress, Paused, Resumed, Pumps, Chunk, Queued, Dropped, NothingQueued, Owner}
use Rattle.sq_serving.specs.declared.serve_fault.ServeFault.{ServeFault}
use Rattle.sq_serving.specs.declared.serve_fault.ServeFault.TheVariants.{NotAServeLine, TooLong, Txn, Plan, Memory}
use Rattle.sq_serving.specs.declared.serve_line.ServeLine.{ServeLine}
use Rattle.sq_serving.specs.declared.serve_line.ServeLine.TheVariants as asks
use Rattle.sq_serving.specs.declared.line_place.LinePlace.{LinePlace}
use Rattle.sq_serving.specs.ServeAnswers.{HasNoLineEnd, IsJsonLine}
use Rattle.sq_serving.specs.ServeFaults.{serve_fault_number}
use Rattle.sq_audit.specs.declared.job.Job.{Job}
use Rattle.sq_serving.specs.declared.desk.JobCounts.{JobCounts}
use Rattle.sq_serving.specs.declared.desk.MoveProgress.{MoveProgress}
use Rattle.sq_serving.specs.declared.desk.AskedMove.{AskedMove}
use Rattle.sq_serving.specs.declared.desk.Wish.{Wish}
use Rattle.sq_serving.specs.declared.desk.Wish.TheVariants as wish
use Rattle.sq_serving.specs.declared.feed.Fed.{Fed}
use Rattle.sq_serving.specs.declared.feed.Fed.TheVariants as fed
use Rattle.sq_serving.specs.declared.feed.InputEnd.TheVariants as end
use Rattle.sq_serving.specs.Saying.{CountsOneMore, OtherLine, Answered, Refused, StatusTold, JsonTold, PlanTold}

-- a wish, if it comes from a line
abbrev pub line_wish : Option Wish → List Wish
line_wish (Some (wish.Move asked)) = wish.Move asked ∷ []
line_wish (Some (wish.Rows asked)) = wish.Rows asked ∷ []
line_wish (Some wish.Close) = []
line_wish None = []

-- how the wishes that are kept change: one is kept after the others, or the last one is dropped, a
-- move that waits
pub data WishChange : Type 0 where
  Keeps : (wish : Wish) → WishChange
  Drops : (asked : AskedMove) → WishChange

-- these changes, one after another, lead from the one list of wishes to the other
abbrev pub Changes : List Wish → List WishChange → List Wish → Type 0
Changes old [] new = new ≡ old
Changes old (Keeps wish ∷ changes) new = Changes (old ++ wish ∷ []) changes new
Changes old (Drops asked ∷ changes) new =
    (rest : List Wish) × (old ≡ rest ++ wish.Move asked ∷ []) × Changes rest changes new

-- what a desk tells of: the plan in force, and how many answers it was given
pub record Standing : Type 0 where
  pub plan : PlanValue
  pub answered : ℕ

-- one more answer was given, unless 64 bits can't count them
pub record CountsAnswer (old new : Standing) : Type 0 where
  pub plan : new.plan ≡ old.plan
  pub answered : CountsOneMore old.answered new.answered

-- how many jobs have no answer: those that are posted and not answered, and those that wait
abbrev pub unanswered_jobs : JobCounts → ℕ → ℕ
unanswered_jobs counts waiting = (counts.posted - counts.answered) + waiting

-- the answer to `status`: the progress of the stage of a move, if it has segments, and whether
-- pumps rest
abbrev pub told_status : Option MoveProgress → ℕ → Bool → ServeAnswer
told_status None unanswered paused = AtRest unanswered paused
told_status (Some moving) unanswered paused =
    if moving.stage.segments == 0 then AtRest unanswered paused
    else Progress moving.stage.complete moving.stage.segments unanswered paused

-- the answer is the status; its number of jobs is `unanswered`, unless 64 bits can't count them
abbrev pub IsStatus : Option MoveProgress → ℕ → ServeAnswer → Type 0
IsStatus moving unanswered answer =
    (told : ℕ) × (unanswered < 2 ^ 64 → told ≡ unanswered) × (paused : Bool) × (answer ≡ told_status moving told paused)

-- the answer to the line of a job that is refused
abbrev pub refusal_of : ℕ → LinePlace → TxnValue → ServeAnswer
refusal_of number place txn = Fault number place.line (Some txn.id)

-- whether chunks may have this limit
abbrev pub is_chunk_limit : ℕ → Bool
is_chunk_limit bytes = nat_le MIN_LIMIT bytes && nat_le bytes MAX_LIMIT

-- the answer to a line that sets the limit of chunks
abbrev pub chunk_answer : LinePlace → ℕ → ServeAnswer
chunk_answer place bytes = if is_chunk_limit bytes then Chunk bytes else Fault 114 place.line None

-- a wish is kept, or refused because rows move
abbrev pub IsKeptOrRefused : Wish → List OtherLine → List WishChange → Type 0
IsKeptOrRefused wish lines changes =
    ((lines ≡ []) × (changes ≡ Keeps wish ∷ [])) ⊎ ((lines ≡ Refused 217 ∷ []) × (changes ≡ []))

-- the same of a move, which may also be kept until rows rest
abbrev pub IsKeptQueuedOrRefused : AskedMove → List OtherLine → List WishChange → Type 0
IsKeptQueuedOrRefused asked lines changes =
    IsKeptOrRefused (wish.Move asked) lines changes
    ⊎ ((waiting : ℕ) × (lines ≡ Answered (Queued waiting) ∷ []) × (changes ≡ Keeps (wish.Move asked) ∷ []))

-- the move that waits last is dropped, if one waits
abbrev pub IsDropped : List OtherLine → List WishChange → Type 0
IsDropped lines changes =
    ((asked : AskedMove) × (waiting : ℕ) × (lines ≡ Answered (Dropped waiting) ∷ []) × (changes ≡ Drops asked ∷ []))
    ⊎ ((lines ≡ Answered NothingQueued ∷ []) × (changes ≡ []))

-- the line that answers a fault; without memory for a line nothing more can be done
abbrev pub AnswersFault : LinePlace → Option ℕ → ServeFault → List OtherLine → Type 0
AnswersFault place id NotAServeLine lines = lines ≡ Answered (Fault 126 place.line id) ∷ []
AnswersFault place id TooLong lines = lines ≡ Answered (Fault 231 place.line id) ∷ []
AnswersFault place id (Txn fault) lines = lines ≡ Answered (Fault (serve_fault_number (Txn fault)) place.line id) ∷ []
AnswersFault place id (Plan fault) lines = lines ≡ Refused (plan_fault_number fault) ∷ []
AnswersFault place id Memory lines = ⊥

-- the line that answers what a line asks, or the wish that is kept or dropped, with a move's
-- progress and the standing as they are; a job of an existing partition gets no line
abbrev pub SettlesAsked : ℕ → Option MoveProgress → Standing → LinePlace → ServeLine → List OtherLine → List WishChange → Type 0
SettlesAsked parts moving standing place (asks.Job part txn) lines changes =
    (part < parts → lines ≡ []) × (parts ≤ part → lines ≡ Answered (refusal_of 219 place txn) ∷ []) × (changes ≡ [])
SettlesAsked parts moving standing place (asks.Move plan) lines changes =
    (limit : ℕ) × IsKeptQueuedOrRefused (record { place = place; plan = plan; limit = limit }) lines changes
SettlesAsked parts moving standing place asks.Fold lines changes =
    (lines ≡ Answered (Folded standing.answered) ∷ []) × (changes ≡ [])
SettlesAsked parts moving standing place asks.Rows lines changes = IsKeptOrRefused (wish.Rows (record { place = place; file = None })) lines changes
SettlesAsked parts moving standing place (asks.RowsTo file) lines changes = IsKeptOrRefused (wish.Rows (record { place = place; file = Some file })) lines changes
SettlesAsked parts moving standing place asks.Status lines changes =
    (unanswered : ℕ) × (paused : Bool) × (figures : List ℕ) × HasNoLineEnd figures
    × (lines ≡ StatusTold (told_status moving unanswered paused) figures ∷ []) × (changes ≡ [])
SettlesAsked parts moving standing place asks.StatusJson lines changes =
    (text : List ℕ) × IsJsonLine text × (lines ≡ JsonTold text ∷ []) × (changes ≡ [])
SettlesAsked parts moving standing place asks.Pause lines changes = (lines ≡ Answered Paused ∷ []) × (changes ≡ [])
SettlesAsked parts moving standing place asks.Resume lines changes = (lines ≡ Answered Resumed ∷ []) × (changes ≡ [])
SettlesAsked parts moving standing place (asks.Pumps count) lines changes =
    ((lines ≡ Answered (Pumps count) ∷ []) ⊎ (lines ≡ Answered (Fault 126 place.line None) ∷ [])) × (changes ≡ [])
SettlesAsked parts moving standing place (asks.Chunk bytes) lines changes =
    (lines ≡ Answered (chunk_answer place bytes) ∷ []) × (changes ≡ [])
SettlesAsked parts moving standing place asks.Drop lines changes = IsDropped lines changes
SettlesAsked parts moving standing place (asks.Owner root) lines changes =
    (lines ≡ Answered (Owner root (owner standing.plan root)) ∷ []) × (changes ≡ [])
SettlesAsked parts moving standing place asks.Plan lines changes = (lines ≡ PlanTold standing.plan ∷ []) × (changes ≡ [])

-- the same of what was handed on
abbrev pub SettlesFed : ℕ → Option MoveProgress → Standing → Fed → List OtherLine → List WishChange → Type 0
SettlesFed parts moving standing (fed.Line place (Ok asks)) lines changes = SettlesAsked parts moving standing place asks lines changes
SettlesFed parts moving standing (fed.Line place (Err faulty)) lines changes = AnswersFault place faulty.id faulty.fault lines × (changes ≡ [])
SettlesFed parts moving standing (fed.End end.Whole) lines changes = (lines ≡ []) × (changes ≡ [])
SettlesFed parts moving standing (fed.End (end.Broken fault place)) lines changes = (lines ≡ Answered (Fault fault place.line None) ∷ []) × (changes ≡ [])
SettlesFed parts moving standing (fed.End end.Memory) lines changes = ⊥

-- the same of all that was handed on, in its order
abbrev pub SettlesEach : ℕ → Option MoveProgress → Standing → List Fed → List OtherLine → List WishChange → Type 0
SettlesEach parts moving standing [] lines changes = (lines ≡ []) × (changes ≡ [])
SettlesEach parts moving standing (fed ∷ more) lines changes =
    (now : List OtherLine) × (first : List WishChange) × (later : List OtherLine) × (after : List WishChange)
    × SettlesFed parts moving standing fed now first × SettlesEach parts moving standing more later after × (lines ≡ now ++ later) × (changes ≡ first ++ after)
