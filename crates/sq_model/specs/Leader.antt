-- The phase of the leader, and what the partitions reported to it.
use Rattle.std.specs.Prelude.{ℕ, Bool, true, false, ◌==◌, ◌||◌}
use Rattle.sq_model.specs.declared.step.Step.{Step}
use Rattle.sq_model.specs.declared.step.Step.TheVariants.{Prepare, Start, Report, Next, Finish}
use Rattle.sq_model.specs.declared.step.Phase.{Phase}
use Rattle.sq_model.specs.declared.step.Phase.TheVariants.{Idle, Preparing, Moving, Ended}
use Rattle.sq_model.specs.declared.answer.Answer.{Answer}
use Rattle.sq_model.specs.declared.answer.Answer.TheVariants.{Done}
use Rattle.sq_model.specs.Trace.{Trace, by_steps}

abbrev pub phase_after : Step → Answer → Phase → Phase
phase_after (Prepare part) Done now = Preparing
phase_after Start Done now = Moving
phase_after Finish Done now = Ended
phase_after _ _ now = now

-- the phase: the first Prepare leads to preparing, Start to moving, Finish to ended
abbrev pub phase : Trace → Phase
phase = by_steps phase_after Idle

abbrev pub is_moving_phase : Phase → Bool
is_moving_phase Moving = true
is_moving_phase _ = false

abbrev pub is_started_phase : Phase → Bool
is_started_phase Moving = true
is_started_phase Ended = true
is_started_phase _ = false

abbrev pub is_ended_phase : Phase → Bool
is_ended_phase Ended = true
is_ended_phase _ = false

-- the move is under way
abbrev pub is_moving : Trace → Bool
is_moving t = is_moving_phase (phase t)

-- the move has started
abbrev pub is_started : Trace → Bool
is_started t = is_started_phase (phase t)

-- the reconfiguration has ended
abbrev pub is_ended : Trace → Bool
is_ended t = is_ended_phase (phase t)

abbrev pub prepares : ℕ → Step → Answer → Bool → Bool
prepares part (Prepare which) Done before = (which == part) || before
prepares part _ _ before = before

-- the partition has prepared
abbrev pub is_prepared : Trace → ℕ → Bool
is_prepared t part = by_steps (prepares part) false t

abbrev pub reports : ℕ → Step → Answer → Bool → Bool
reports part (Report which) Done before = (which == part) || before
reports part Next Done before = false
reports part _ _ before = before

-- the partition has reported in the running stage
abbrev pub is_reported : Trace → ℕ → Bool
is_reported t part = by_steps (reports part) false t
