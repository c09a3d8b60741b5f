-- The leader after a step: how far it is, and what the partitions said to it.
use Rattle.std.proofs.Common.{◌≡◌, ℕ, ◌+◌, ◌<◌, Bool, true, false, List, length, refl, sym, ap, ◌∙◌, arith, true≢false}
use Rattle.std.specs.Prelude.{◌==◌, ◌||◌, if◌then◌else◌}
use Rattle.std.proofs.lemmas.List.{length-set, length-replicate}
use Rattle.sq_leader.specs.declared.leader.Leader.{Leader}
use Rattle.sq_leader.specs.declared.leader.Leader.TheVariants as leader
use Rattle.sq_leader.specs.Marks.{none_marked, is_marked, with_mark}
use Rattle.sq_leader.proofs.Marked.{is_marked-none_marked}
use Rattle.sq_model.specs.declared.step.Phase.TheVariants.{Preparing, Ended}
use Rattle.sq_model.specs.Leader.{is_started_phase, is_moving_phase}
use Rattle.sq_transition.specs.Leading.{phase_of, parts_of, moved_by, stage_of, has_prepared, has_reported, after_prepare, after_start, after_report, after_next, after_finish}
use Rattle.sq_transition.proofs.Sets.{get_or-set}

-- who is marked, with one more
pub marked_too : (marks : List Bool) (part other : ℕ) → part < length marks → is_marked (with_mark marks part) other ≡ ((part == other) || is_marked marks other)
marked_too marks part other there = get_or-set marks part other true false there ∙ by_case (part == other) (is_marked marks other)
  where
    by_case : (here was : Bool) → (if here then true else was) ≡ (here || was)
    by_case true was = refl
    by_case false was = refl

-- what a Prepare makes of a leader that hasn't started the move
pub record IsPrepared (before : Leader) (part : ℕ) : Type 0 where
  pub parts : parts_of (after_prepare before part) ≡ parts_of before
  pub moves : moved_by (after_prepare before part) ≡ moved_by before
  pub stage : stage_of (after_prepare before part) ≡ stage_of before
  pub phase : phase_of (after_prepare before part) ≡ Preparing
  pub prepared : (other : ℕ) → has_prepared (after_prepare before part) other ≡ ((part == other) || has_prepared before other)
  pub reported : (other : ℕ) → has_reported (after_prepare before part) other ≡ has_reported before other

pub prepared_leader : (before : Leader) (part : ℕ) → is_started_phase (phase_of before) ≡ false → part < parts_of before → IsPrepared before part
prepared_leader (leader.Idle idle) part unstarted there =
    assumption (
      length-set (none_marked idle.parts) part true ∙ length-replicate idle.parts false,
      λ (other : ℕ). marked_too (none_marked idle.parts) part other (omega (arith, length-replicate idle.parts false)) ∙ ap (λ b. (part == other) || b) (is_marked-none_marked idle.parts other),
    )
prepared_leader (leader.Preparing preparing) part unstarted there =
    assumption (length-set preparing.prepared part true, λ (other : ℕ). marked_too preparing.prepared part other there)
prepared_leader (leader.Moving at) part started there = absurd (true≢false started)
prepared_leader (leader.Ended at) part started there = absurd (true≢false started)

-- before the start none has reported, nor after it
pub start_reported : (before : Leader) (part : ℕ) → is_started_phase (phase_of before) ≡ false → has_reported (after_start before) part ≡ has_reported before part
start_reported (leader.Idle idle) part unstarted = is_marked-none_marked idle.parts part
start_reported (leader.Preparing preparing) part unstarted = is_marked-none_marked (length preparing.prepared) part
start_reported (leader.Moving at) part started = absurd (true≢false started)
start_reported (leader.Ended at) part started = absurd (true≢false started)

-- and the first stage runs before it
pub start_stage : (before : Leader) → is_started_phase (phase_of before) ≡ false → stage_of (after_start before) ≡ stage_of before
start_stage (leader.Idle idle) unstarted = refl
start_stage (leader.Preparing preparing) unstarted = refl
start_stage (leader.Moving at) started = absurd (true≢false started)
start_stage (leader.Ended at) started = absurd (true≢false started)

-- what a Report makes of a leader while the move is under way
pub record IsReported (before : Leader) (part : ℕ) : Type 0 where
  pub parts : parts_of (after_report before part) ≡ parts_of before
  pub moves : moved_by (after_report before part) ≡ moved_by before
  pub stage : stage_of (after_report before part) ≡ stage_of before
  pub phase : phase_of (after_report before part) ≡ phase_of before
  pub prepared : (other : ℕ) → has_prepared (after_report before part) other ≡ has_prepared before other
  pub reported : (other : ℕ) → has_reported (after_report before part) other ≡ ((part == other) || has_reported before other)

pub reported_leader : (before : Leader) (part : ℕ) → is_moving_phase (phase_of before) ≡ true → part < parts_of before → IsReported before part
reported_leader (leader.Moving at) part moving there =
    assumption (length-set at.reported part true, λ (other : ℕ). marked_too at.reported part other there)
reported_leader (leader.Idle idle) part moving there = absurd (true≢false (sym moving))
reported_leader (leader.Preparing preparing) part moving there = absurd (true≢false (sym moving))
reported_leader (leader.Ended at) part moving there = absurd (true≢false (sym moving))

-- what a Next makes of it: none has reported
pub record IsEntered (before : Leader) : Type 0 where
  pub parts : parts_of (after_next before) ≡ parts_of before
  pub moves : moved_by (after_next before) ≡ moved_by before
  pub stage : stage_of (after_next before) ≡ stage_of before + 1
  pub phase : phase_of (after_next before) ≡ phase_of before
  pub prepared : (other : ℕ) → has_prepared (after_next before) other ≡ has_prepared before other
  pub reported : (other : ℕ) → has_reported (after_next before) other ≡ false

pub entered_leader : (before : Leader) → is_moving_phase (phase_of before) ≡ true → IsEntered before
entered_leader (leader.Moving at) moving =
    assumption (length-replicate (length at.reported) false, is_marked-none_marked (length at.reported))
entered_leader (leader.Idle idle) moving = absurd (true≢false (sym moving))
entered_leader (leader.Preparing preparing) moving = absurd (true≢false (sym moving))
entered_leader (leader.Ended at) moving = absurd (true≢false (sym moving))

-- what the Finish makes of it
pub record IsFinished (before : Leader) : Type 0 where
  pub parts : parts_of (after_finish before) ≡ parts_of before
  pub moves : moved_by (after_finish before) ≡ moved_by before
  pub stage : stage_of (after_finish before) ≡ stage_of before
  pub phase : phase_of (after_finish before) ≡ Ended
  pub prepared : (other : ℕ) → has_prepared (after_finish before) other ≡ has_prepared before other
  pub reported : (other : ℕ) → has_reported (after_finish before) other ≡ has_reported before other

pub finished_leader : (before : Leader) → is_moving_phase (phase_of before) ≡ true → IsFinished before
finished_leader (leader.Moving at) moving = assumption
finished_leader (leader.Idle idle) moving = absurd (true≢false (sym moving))
finished_leader (leader.Preparing preparing) moving = absurd (true≢false (sym moving))
finished_leader (leader.Ended at) moving = absurd (true≢false (sym moving))
