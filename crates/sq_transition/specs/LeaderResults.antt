-- What the leader's steps do to a world: Prepare, Start, Report, Next and Finish.
use Rattle.std.specs.Prelude.{ℕ, Bool, true, ◌||◌, ◌&&◌, ◌+◌, ◌==◌, not, nat_le, if◌then◌else◌, List, length, map}
use Rattle.std.specs.List.{list_any, list_all, range_with_len}
use Rattle.sq_moves.specs.Status.{reading}
use Rattle.sq_moves.specs.ReconValue.{stages, goes_into}
use Rattle.sq_exec.specs.CoreValue.{CoreValue, entered_core, folded_core}
use Rattle.sq_model.specs.declared.answer.Answer.{Answer}
use Rattle.sq_model.specs.declared.answer.Answer.TheVariants.{Done, Refused}
use Rattle.sq_model.specs.declared.answer.Refusal.{Refusal}
use Rattle.sq_model.specs.declared.answer.Refusal.TheVariants.{NotMoving, AlreadyMoving, NotPrepared, NotFinished, NoSuchPartition, LastStage}
use Rattle.sq_model.specs.Leader.{is_moving_phase, is_started_phase, is_ended_phase}
use Rattle.sq_moves.specs.Reading.{is_complete_reading}
use Rattle.sq_transition.specs.WorldValue.{WorldValue, running_stage, running_range, status_in, core_at, with_core}
use Rattle.sq_transition.specs.Leading.{phase_of, has_prepared, has_reported, after_prepare, after_start, after_report, after_next, after_finish}

-- an answer, and the world after it
abbrev pub StepResult : Type 0
StepResult = Answer × WorldValue

-- a refused step changes nothing
abbrev pub refuse : WorldValue → Refusal → StepResult
refuse w refusal = (Refused refusal, w)

abbrev pub if_partition : WorldValue → ℕ → StepResult → StepResult
if_partition w part result = if nat_le w.old.parts part then refuse w NoSuchPartition else result

abbrev pub if_moving : WorldValue → StepResult → StepResult
if_moving w result = if not (is_moving_phase (phase_of w.leader)) then refuse w NotMoving else result

abbrev pub prepare_result : WorldValue → ℕ → StepResult
prepare_result w part =
    if_partition w part (
    if is_started_phase (phase_of w.leader) then refuse w AlreadyMoving
    else (Done, record w { leader = after_prepare w.leader part })
    )

-- a partition that has started the move
abbrev pub started_core : CoreValue → CoreValue
started_core core = record core { started = true }

abbrev pub start_result : WorldValue → StepResult
start_result w =
    if is_started_phase (phase_of w.leader) then refuse w AlreadyMoving
    else if not (list_all (has_prepared w.leader) (range_with_len 0 w.old.parts)) then refuse w NotPrepared
    else (Done, record w { leader = after_start w.leader; cores = map started_core w.cores })

-- the segment of this number moves into the partition in the running stage
abbrev pub is_segment_into : WorldValue → ℕ → ℕ → Bool
is_segment_into w part seg = goes_into (running_range w seg) part

-- the segment with this number is complete, according to its tree
abbrev pub is_complete_by_tree : WorldValue → ℕ → Bool
is_complete_by_tree w seg = is_complete_reading (reading (status_in w seg) 1)

abbrev pub segment_range : WorldValue → List ℕ
segment_range w = range_with_len 0 (length w.recon.segments)

abbrev pub report_result : WorldValue → ℕ → StepResult
report_result w part =
    if_moving w (if_partition w part (
    if list_all (λ seg. not (is_segment_into w part seg) || is_complete_by_tree w seg) (segment_range w)
    then (Done, record w { leader = after_report w.leader part })
    else refuse w NotFinished
    ))

-- each partition reported, or no segment moves into it in the running stage
abbrev pub all_reported : WorldValue → Bool
all_reported w =
    list_all
    (λ part. has_reported w.leader part || not (list_any (is_segment_into w part) (segment_range w)))
    (range_with_len 0 w.old.parts)

abbrev pub runs_last : WorldValue → Bool
runs_last w = running_stage w + 1 == stages w.recon

-- the world in which the next stage runs
abbrev pub entered : WorldValue → WorldValue
entered w = record w { leader = after_next w.leader; cores = map (entered_core (running_stage w + 1)) w.cores }

abbrev pub next_result : WorldValue → StepResult
next_result w =
    if_moving w (
    if runs_last w then refuse w LastStage
    else if all_reported w then (Done, entered w)
    else refuse w NotFinished
    )

abbrev pub finish_result : WorldValue → StepResult
finish_result w =
    if_moving w (
    if runs_last w && all_reported w
    then (Done, record w { leader = after_finish w.leader })
    else refuse w NotFinished
    )

-- the logs of a partition are folded after the reconfiguration has ended
abbrev pub fold_result : WorldValue → ℕ → StepResult
fold_result w part =
    if_partition w part (
    if is_ended_phase (phase_of w.leader)
    then (Done, with_core w part (folded_core (core_at w part)))
    else refuse w NotFinished
    )
