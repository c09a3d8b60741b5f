-- A leader of a move over a whole list of calls.
use Rattle.std.specs.Prelude.{◌≡◌, ℕ, Bool, true, false, ◌==◌, ◌&&◌, ◌||◌, List, [], ◌∷◌, Result, Ok, Err, Contains}
use Rattle.std.specs.Result.{is_ok}
use Rattle.sq_moves.specs.declared.recon.Range.{Range}
use Rattle.sq_moves.specs.ReconValue.{ReconValue, stage_in}
use Rattle.sq_leader.specs.LeaderValue.{StageValue, ReportValue}
use Rattle.sq_leader.specs.Leader.{first_stage, answer_to_report, answer_to_next, answer_to_finish}

-- the leader hears a report, or is asked for the next stage
pub data Call : Type 0 where
  Hear : (told : ReportValue) → Call
  Next : Call

-- the leader after a call: the next state, or the state as it was if the call was refused
abbrev pub state_after : {F : Type 0} → StageValue → Result StageValue F → StageValue
state_after at (Ok next) = next
state_after at (Err fault) = at

abbrev pub after_call : StageValue → Call → StageValue
after_call at (Hear told) = state_after at (answer_to_report at told)
after_call at Next = state_after at (answer_to_next at)

-- a move of this many partitions after these calls, the last of them first
abbrev pub after_calls : ℕ → ReconValue → List Call → StageValue
after_calls parts recon [] = first_stage parts recon
after_calls parts recon (call ∷ calls) = after_call (after_calls parts recon calls) call

-- a report of this partition came while this stage ran, and it was a report of this stage
abbrev pub was_heard : ℕ → ReconValue → List Call → ℕ → ℕ → Bool
was_heard parts recon [] part stage = false
was_heard parts recon (Hear told ∷ calls) part stage =
    ((told.part == part) && ((told.stage == stage) && ((after_calls parts recon calls).stage == stage)))
    || was_heard parts recon calls part stage
was_heard parts recon (Next ∷ calls) part stage = was_heard parts recon calls part stage

-- if the move can end after these calls, a report was heard for each segment: of the partition that
-- it moves into, in the segment's stage
abbrev pub EndsHeard : ℕ → ReconValue → List Call → Type 0
EndsHeard parts recon calls =
    is_ok (answer_to_finish (after_calls parts recon calls)) ≡ true → (segment : Range) → Contains recon.segments segment
    → was_heard parts recon calls segment.dst (stage_in recon segment) ≡ true
