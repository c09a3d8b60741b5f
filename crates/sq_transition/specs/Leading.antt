-- The leader of a world: its phase, what the partitions reported to it, and its state after a step.
use Rattle.std.specs.Prelude.{ℕ, Bool, true, false, length}
use Rattle.sq_moves.specs.ReconValue.{ReconValue}
use Rattle.sq_leader.specs.declared.leader.Leader.{Leader}
use Rattle.sq_leader.specs.declared.leader.Leader.TheVariants as leader
use Rattle.sq_leader.specs.Marks.{none_marked, is_marked, with_mark}
use Rattle.sq_leader.specs.Leader.{first_stage, next_stage}
use Rattle.sq_model.specs.declared.step.Phase.{Phase}
use Rattle.sq_model.specs.declared.step.Phase.TheVariants.{Idle, Preparing, Moving, Ended}

-- its phase
abbrev pub phase_of : Leader → Phase
phase_of (leader.Idle idle) = Idle
phase_of (leader.Preparing preparing) = Preparing
phase_of (leader.Moving at) = Moving
phase_of (leader.Ended at) = Ended

-- how many partitions it leads
abbrev pub parts_of : Leader → ℕ
parts_of (leader.Idle idle) = idle.parts
parts_of (leader.Preparing preparing) = length preparing.prepared
parts_of (leader.Moving at) = length at.reported
parts_of (leader.Ended at) = length at.reported

-- what it moves
abbrev pub moved_by : Leader → ReconValue
moved_by (leader.Idle idle) = idle.recon
moved_by (leader.Preparing preparing) = preparing.recon
moved_by (leader.Moving at) = at.recon
moved_by (leader.Ended at) = at.recon

-- the running stage: the first before the move starts, and the last after it has ended
abbrev pub stage_of : Leader → ℕ
stage_of (leader.Idle idle) = 0
stage_of (leader.Preparing preparing) = 0
stage_of (leader.Moving at) = at.stage
stage_of (leader.Ended at) = at.stage

-- the partition has prepared; each has, once the move has started
abbrev pub has_prepared : Leader → ℕ → Bool
has_prepared (leader.Idle idle) part = false
has_prepared (leader.Preparing preparing) part = is_marked preparing.prepared part
has_prepared (leader.Moving at) part = true
has_prepared (leader.Ended at) part = true

-- the partition has reported in the running stage; none has before the move starts
abbrev pub has_reported : Leader → ℕ → Bool
has_reported (leader.Idle idle) part = false
has_reported (leader.Preparing preparing) part = false
has_reported (leader.Moving at) part = is_marked at.reported part
has_reported (leader.Ended at) part = is_marked at.reported part

-- after a Prepare, which is possible until the move starts
abbrev pub after_prepare : Leader → ℕ → Leader
after_prepare (leader.Idle idle) part = leader.Preparing (record { prepared = with_mark (none_marked idle.parts) part; recon = idle.recon })
after_prepare (leader.Preparing preparing) part = leader.Preparing (record preparing { prepared = with_mark preparing.prepared part })
after_prepare started part = started

-- after the Start: stage 0, in which none has reported
abbrev pub after_start : Leader → Leader
after_start before = leader.Moving (first_stage (parts_of before) (moved_by before))

-- after a Report, which is possible while the move is under way
abbrev pub after_report : Leader → ℕ → Leader
after_report (leader.Moving at) part = leader.Moving (record at { reported = with_mark at.reported part })
after_report still part = still

-- after a Next, which is possible while the move is under way: the next stage, in which none has
-- reported
abbrev pub after_next : Leader → Leader
after_next (leader.Moving at) = leader.Moving (next_stage at)
after_next still = still

-- after the Finish, which is possible while the move is under way
abbrev pub after_finish : Leader → Leader
after_finish (leader.Moving at) = leader.Ended at
after_finish still = still
