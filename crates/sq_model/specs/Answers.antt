-- The answer to each step, as the trace before it determines it.
use Rattle.std.specs.Prelude.{ℕ, Bool, ◌+◌, ◌-◌, ◌==◌, ◌||◌, ◌&&◌, not, is_none, nat_le, nat_lt, if◌then◌else◌, List, find, length, Option, Some, None, Result, Ok, Err, slice_get, unwrap_or}
use Rattle.std.specs.List.{list_any, list_all, range_with_len}
use Rattle.sq_schema.specs.TxnValue.{TxnValue}
use Rattle.sq_schema.specs.Effect.{reply}
use Rattle.sq_moves.specs.declared.tree_fault.SplitFault.{SplitFault}
use Rattle.sq_moves.specs.declared.tree_fault.SplitFault.TheVariants as split
use Rattle.sq_moves.specs.declared.tree_fault.ClaimFault.{ClaimFault}
use Rattle.sq_moves.specs.declared.tree_fault.ClaimFault.TheVariants as claim
use Rattle.sq_moves.specs.declared.tree_fault.BeginFault.{BeginFault}
use Rattle.sq_moves.specs.declared.tree_fault.BeginFault.TheVariants as begin
use Rattle.sq_moves.specs.declared.tree_fault.CompleteFault.{CompleteFault}
use Rattle.sq_moves.specs.declared.tree_fault.CompleteFault.TheVariants as complete
use Rattle.sq_moves.specs.Node.{is_node}
use Rattle.sq_moves.specs.Reading.{is_complete_reading}
use Rattle.sq_moves.specs.Status.{reading}
use Rattle.sq_moves.specs.Answer.{split_answer, claim_answer, begin_answer, complete_answer}
use Rattle.sq_store.specs.declared.chunk.Note.{Note}
use Rattle.sq_moves.specs.declared.recon.Range.{Range}
use Rattle.sq_moves.specs.declared.opening.TheConstants.{MAX_WAITING}
use Rattle.sq_moves.specs.ReconValue.{ReconValue, is_link, leaf_at, stage_on, stages, of_stage, moves_into}
use Rattle.sq_moves.specs.OpeningValue.{OpeningValue}
use Rattle.sq_model.specs.declared.step.Step.{Step}
use Rattle.sq_model.specs.declared.step.Step.TheVariants.{Prepare, Start, Submit, Resume, Split, Claim, Begin, Cut, Push, Pop, Load, Complete, Report, Next, Finish, Status, Fold}
use Rattle.sq_model.specs.declared.answer.Answer.{Answer}
use Rattle.sq_model.specs.declared.answer.Answer.TheVariants.{Done, Replied, Moved, Waits, Resumed, WasCut, WasLoaded, Reads, Refused}
use Rattle.sq_model.specs.declared.answer.Refusal.TheVariants.{NotMoving, NoSuchSegment, NoSuchNode, NotFree, NotLive, IsLeaf, NotClaimed, WrongPull, NothingToCut, OutboxFull, OutboxEmpty, LinkFull, LinkEmpty, InboxFull, InboxEmpty, NotLoaded, AlreadyMoving, NotFinished, NoSuchPartition, WaitFull, LogFull, NoneReady, NoSuchLink, LastStage, NotPartial, NotPrepared}
use Rattle.sq_model.specs.Trace.{Trace, stage, notes, loads, link, cut_count, push_count, pop_count, load_count}
use Rattle.sq_model.specs.Leader.{is_moving, is_started, is_prepared, is_reported, is_ended}
use Rattle.sq_model.specs.Nodes.{Item, status_of}
use Rattle.sq_model.specs.Tables.{now, is_full}
use Rattle.sq_model.specs.Place.{destination, runner}
use Rattle.sq_model.specs.Links.{has_last, open_items, next_item, next_note, family_count}
use Rattle.sq_model.specs.Waiting.{waiting, has_to_wait, are_coming, first_ready}

-- the answer, if the partition is one of the plan's
abbrev pub at_partition : OpeningValue → ℕ → Answer → Answer
at_partition o part answer = if nat_le o.old.parts part then Refused NoSuchPartition else answer

-- the answer, if the move is under way
abbrev pub while_moving : Trace → Answer → Answer
while_moving t answer = if not (is_moving t) then Refused NotMoving else answer

-- the segment with this number, if it is of the running stage
abbrev pub running : OpeningValue → Trace → ℕ → Option Range
running o t seg = of_stage o.recon (stage t) (slice_get o.recon.segments seg)

-- the answer, if the running stage has such a segment
abbrev pub in_segment : OpeningValue → Trace → ℕ → Answer → Answer
in_segment o t seg answer = if is_none (running o t seg) then Refused NoSuchSegment else answer

-- the answer, if there is such a node
abbrev pub at_node : ℕ → Answer → Answer
at_node node answer = if not (is_node node) then Refused NoSuchNode else answer

-- some range goes from the one partition to the other in the running stage
abbrev pub is_running_link : OpeningValue → Trace → ℕ → ℕ → Bool
is_running_link o t src dst = is_link o.recon.ranges src dst && (stage_on o.recon src dst == stage t)

-- the answer, if there is such a link
abbrev pub on_link : OpeningValue → Trace → ℕ → ℕ → Answer → Answer
on_link o t src dst answer = if not (is_running_link o t src dst) then Refused NoSuchLink else answer

abbrev pub prepare_answer : OpeningValue → Trace → ℕ → Answer
prepare_answer o t part = at_partition o part (if is_started t then Refused AlreadyMoving else Done)

-- the numbers of the partitions
abbrev pub partitions : OpeningValue → List ℕ
partitions o = range_with_len 0 o.old.parts

abbrev pub start_answer : OpeningValue → Trace → Answer
start_answer o t =
    if is_started t then Refused AlreadyMoving
    else if not (list_all (is_prepared t) (partitions o)) then Refused NotPrepared
    else Done

-- the transaction waits for the segment and the leaf of its root key; it has both, since only keys
-- that move are waited for
abbrev pub waits_at : ReconValue → TxnValue → Answer
waits_at recon txn = let at = unwrap_or (leaf_at recon txn.root) (0, 0) in Waits txn.id at.0 at.1

abbrev pub wait_answer : OpeningValue → Trace → ℕ → TxnValue → Answer
wait_answer o t part txn =
    if nat_le MAX_WAITING (length (waiting o t part)) then Refused WaitFull
    else waits_at o.recon txn

abbrev pub run_answer : OpeningValue → Trace → TxnValue → Answer
run_answer o t txn = if is_full o t txn.root then Refused LogFull else Replied txn.id (reply (now o t txn.root) txn)

-- at the runner the transaction runs; elsewhere the answer names the runner, or the destination if
-- there is none
abbrev pub routed : OpeningValue → Trace → ℕ → TxnValue → Option ℕ → Answer
routed o t part txn None = Moved txn.id (destination o txn.root)
routed o t part txn (Some who) = if who == part then run_answer o t txn else Moved txn.id who

abbrev pub submit_answer : OpeningValue → Trace → ℕ → TxnValue → Answer
submit_answer o t part txn =
    at_partition o part (
    if has_to_wait o t part txn.root then wait_answer o t part txn else routed o t part txn (runner o t txn.root)
    )

-- the answer to the transaction that no longer waits
abbrev pub resumed : OpeningValue → Trace → Option TxnValue → Answer
resumed o t None = Refused LogFull
resumed o t (Some txn) = Resumed txn (reply (now o t txn.root) txn)

abbrev pub resume_answer : OpeningValue → Trace → ℕ → Answer
resume_answer o t part =
    at_partition o part (if are_coming o t part then Refused NoneReady else resumed o t (first_ready o t part))

abbrev pub split_answered : Result (Unit {0}) SplitFault → Answer
split_answered (Ok done) = Done
split_answered (Err split.IsLeaf) = Refused IsLeaf
split_answered (Err split.NotLive) = Refused NotLive
split_answered (Err (split.NotFree found)) = Refused NotFree

abbrev pub claim_answered : Result (Unit {0}) ClaimFault → Answer
claim_answered (Ok done) = Done
claim_answered (Err claim.NotLive) = Refused NotLive
claim_answered (Err (claim.NotFree found)) = Refused NotFree

abbrev pub begin_answered : Result (Unit {0}) BeginFault → Answer
begin_answered (Ok done) = Done
begin_answered (Err (begin.NotClaimed found)) = Refused NotClaimed
begin_answered (Err begin.WrongPull) = Refused WrongPull

-- a node is complete once its last chunk is loaded
abbrev pub complete_answered : Bool → Result (Unit {0}) CompleteFault → Answer
complete_answered loaded (Ok done) = if loaded then Done else Refused NotLoaded
complete_answered loaded (Err (complete.NotPartial found)) = Refused NotPartial
complete_answered loaded (Err complete.WrongPull) = Refused WrongPull

abbrev pub split_step : OpeningValue → Trace → ℕ → ℕ → Answer
split_step o t seg node =
    while_moving t (in_segment o t seg (at_node node (split_answered (split_answer (status_of t seg) node))))

abbrev pub claim_step : OpeningValue → Trace → ℕ → ℕ → ℕ → Answer
claim_step o t seg node pull =
    while_moving t (in_segment o t seg (at_node node (claim_answered (claim_answer (status_of t seg) node pull))))

abbrev pub begin_step : OpeningValue → Trace → ℕ → ℕ → ℕ → Answer
begin_step o t seg node pull =
    while_moving t (in_segment o t seg (at_node node (begin_answered (begin_answer (status_of t seg) node pull))))

abbrev pub complete_step : OpeningValue → Trace → ℕ → ℕ → ℕ → Answer
complete_step o t seg node pull =
    while_moving t (in_segment o t seg (at_node node (
    complete_answered (has_last seg node (loads t)) (complete_answer (status_of t seg) node pull)
    )))

abbrev pub cut_for : OpeningValue → Trace → ℕ → ℕ → Option Item → Answer
cut_for o t src dst None = Refused NothingToCut
cut_for o t src dst (Some item) =
    let note = next_note o t src dst item in WasCut note (family_count o t note)

abbrev pub cut_answer : OpeningValue → Trace → ℕ → ℕ → Answer
cut_answer o t src dst =
    while_moving t (on_link o t src dst (
    if nat_lt (push_count t src dst) (cut_count t src dst) then Refused OutboxFull
    else cut_for o t src dst (next_item (open_items o t src dst))
    ))

abbrev pub push_answer : OpeningValue → Trace → ℕ → ℕ → Answer
push_answer o t src dst =
    while_moving t (on_link o t src dst (
    if cut_count t src dst == push_count t src dst then Refused OutboxEmpty
    else if nat_le o.config.capacity (push_count t src dst - pop_count t src dst) then Refused LinkFull
    else Done
    ))

abbrev pub pop_answer : OpeningValue → Trace → ℕ → ℕ → Answer
pop_answer o t src dst =
    while_moving t (on_link o t src dst (
    if nat_lt (load_count t src dst) (pop_count t src dst) then Refused InboxFull
    else if pop_count t src dst == push_count t src dst then Refused LinkEmpty
    else Done
    ))

-- the next chunk of the link is loaded
abbrev pub load_of : OpeningValue → Trace → Option Note → Answer
load_of o t None = Refused InboxEmpty
load_of o t (Some note) = WasLoaded note (family_count o t note)

abbrev pub load_answer : OpeningValue → Trace → ℕ → ℕ → Answer
load_answer o t src dst =
    while_moving t (on_link o t src dst (
    if load_count t src dst == pop_count t src dst then Refused InboxEmpty
    else load_of o t (find (λ note. note.number == load_count t src dst) (link src dst (notes t)))
    ))

-- the segment of this number is whole at its destination
abbrev pub is_complete_segment : Trace → ℕ → Bool
is_complete_segment t seg = is_complete_reading (reading (status_of t seg) 1)

-- the segment with this number moves into the partition in the running stage
abbrev pub is_into : OpeningValue → Trace → ℕ → ℕ → Bool
is_into o t part seg = moves_into o.recon (stage t) part seg

abbrev pub segment_numbers : OpeningValue → List ℕ
segment_numbers o = range_with_len 0 (length o.recon.segments)

-- each segment that moves into the partition in the running stage is whole
abbrev pub has_all : OpeningValue → Trace → ℕ → Bool
has_all o t part = list_all (λ seg. not (is_into o t part seg) || is_complete_segment t seg) (segment_numbers o)

abbrev pub report_answer : OpeningValue → Trace → ℕ → Answer
report_answer o t part = while_moving t (at_partition o part (if has_all o t part then Done else Refused NotFinished))

-- a partition counts as reported if no segment moves into it in the running stage
abbrev pub counts_reported : OpeningValue → Trace → ℕ → Bool
counts_reported o t part = is_reported t part || not (list_any (is_into o t part) (segment_numbers o))

-- no stage follows the running one
abbrev pub is_last_stage : OpeningValue → Trace → Bool
is_last_stage o t = stage t + 1 == stages o.recon

abbrev pub next_answer : OpeningValue → Trace → Answer
next_answer o t =
    while_moving t (
    if is_last_stage o t then Refused LastStage
    else if list_all (counts_reported o t) (partitions o) then Done
    else Refused NotFinished
    )

abbrev pub finish_answer : OpeningValue → Trace → Answer
finish_answer o t =
    while_moving t (if is_last_stage o t && list_all (counts_reported o t) (partitions o) then Done else Refused NotFinished)

-- logs are folded only after the move has ended
abbrev pub fold_answer : OpeningValue → Trace → ℕ → Answer
fold_answer o t part = at_partition o part (if is_ended t then Done else Refused NotFinished)

-- the status of a node, and its reading
abbrev pub status_answer : OpeningValue → Trace → ℕ → ℕ → Answer
status_answer o t seg node = in_segment o t seg (at_node node (Reads (status_of t seg node) (reading (status_of t seg) node)))

abbrev pub answer : OpeningValue → Trace → Step → Answer
answer o t (Prepare part) = prepare_answer o t part
answer o t Start = start_answer o t
answer o t (Submit part txn) = submit_answer o t part txn
answer o t (Resume part) = resume_answer o t part
answer o t (Split seg node) = split_step o t seg node
answer o t (Claim seg node pull) = claim_step o t seg node pull
answer o t (Begin seg node pull) = begin_step o t seg node pull
answer o t (Cut src dst) = cut_answer o t src dst
answer o t (Push src dst) = push_answer o t src dst
answer o t (Pop src dst) = pop_answer o t src dst
answer o t (Load src dst) = load_answer o t src dst
answer o t (Complete seg node pull) = complete_step o t seg node pull
answer o t (Report part) = report_answer o t part
answer o t Next = next_answer o t
answer o t Finish = finish_answer o t
answer o t (Fold part) = fold_answer o t part
answer o t (Status seg node) = status_answer o t seg node
