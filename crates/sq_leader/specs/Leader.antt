-- The answer to each call of the leader. A refused call returns the state as it was.
use Rattle.std.specs.Prelude.{ℕ, Bool, ◌+◌, ◌==◌, ◌&&◌, nat_le, if◌then◌else◌, List, length, Option, None, Some, Result, Ok, Err}
use Rattle.sq_plan.specs.PlanValue.{PlanValue}
use Rattle.sq_moves.specs.ReconValue.{ReconValue, stages}
use Rattle.sq_leader.specs.declared.fault.PrepareFault.{PrepareFault}
use Rattle.sq_leader.specs.declared.fault.PrepareFault.TheVariants as prepare
use Rattle.sq_leader.specs.declared.fault.StartFault.{StartFault}
use Rattle.sq_leader.specs.declared.fault.StartFault.TheVariants as start
use Rattle.sq_leader.specs.declared.fault.ReportFault.{ReportFault}
use Rattle.sq_leader.specs.declared.fault.ReportFault.TheVariants as report
use Rattle.sq_leader.specs.declared.fault.StageFault.{StageFault}
use Rattle.sq_leader.specs.declared.fault.StageFault.TheVariants as stage_fault
use Rattle.sq_leader.specs.declared.fault.NextFault.{NextFault}
use Rattle.sq_leader.specs.declared.fault.NextFault.TheVariants as next
use Rattle.sq_leader.specs.declared.fault.FinishFault.{FinishFault}
use Rattle.sq_leader.specs.declared.fault.FinishFault.TheVariants as finish
use Rattle.sq_leader.specs.declared.leader.Refused.{Refused}
use Rattle.sq_leader.specs.LeaderValue.{IdleValue, PreparingValue, StageValue, ReportValue}
use Rattle.sq_leader.specs.Marks.{none_marked, with_mark, all_marked}
use Rattle.sq_leader.specs.Segments.{all_marked_complete, have_reported}

-- the first partition prepares
abbrev pub answer_to_first_prepare : IdleValue → ℕ → Result PreparingValue (Refused IdleValue PrepareFault)
answer_to_first_prepare idle part =
    if nat_le idle.parts part then Err (record { leader = idle; fault = prepare.NoSuchPartition })
    else Ok (record { prepared = with_mark (none_marked idle.parts) part; recon = idle.recon })

-- one more partition prepares, or one prepares again
abbrev pub answer_to_prepare : PreparingValue → ℕ → Result PreparingValue (Refused PreparingValue PrepareFault)
answer_to_prepare preparing part =
    if nat_le (length preparing.prepared) part then Err (record { leader = preparing; fault = prepare.NoSuchPartition })
    else Ok (record preparing { prepared = with_mark preparing.prepared part })

-- a move of this many partitions begins with stage 0, in which none has reported
abbrev pub first_stage : ℕ → ReconValue → StageValue
first_stage parts recon = record { reported = none_marked parts; stage = 0; recon = recon }

-- the move starts, if each partition has prepared
abbrev pub answer_to_start : PreparingValue → Result StageValue (Refused PreparingValue StartFault)
answer_to_start preparing =
    if all_marked preparing.prepared then Ok (first_stage (length preparing.prepared) preparing.recon)
    else Err (record { leader = preparing; fault = start.NotPrepared })

-- a partition of the plan makes a report if each segment that moves into it in the stage is whole
abbrev pub made_answer : PlanValue → ReconValue → ℕ → List Bool → ℕ → Result ReportValue ReportFault
made_answer plan recon stage whole part =
    if nat_le plan.parts part then Err report.NoSuchPartition
    else if all_marked_complete recon stage whole part then Ok (record { part = part; stage = stage })
    else Err report.NotFinished

-- a report of the running stage is recorded
abbrev pub answer_to_report : StageValue → ReportValue → Result StageValue (Refused StageValue StageFault)
answer_to_report at told =
    if told.stage == at.stage then Ok (record at { reported = with_mark at.reported told.part })
    else Err (record { leader = at; fault = stage_fault.OtherStage })

-- no stage follows the running one
abbrev pub is_last : StageValue → Bool
is_last at = at.stage + 1 == stages at.recon

-- the number of the stage after the running one; none if that is the last
abbrev pub following : StageValue → Option ℕ
following at = if is_last at then None else Some (at.stage + 1)

-- the stage after the running one, in which none has reported
abbrev pub next_stage : StageValue → StageValue
next_stage at = record { reported = none_marked (length at.reported); stage = at.stage + 1; recon = at.recon }

-- the next stage is entered, if there is one and each partition that a segment of the running stage
-- moves into has reported
abbrev pub answer_to_next : StageValue → Result StageValue (Refused StageValue NextFault)
answer_to_next at =
    if is_last at then Err (record { leader = at; fault = next.LastStage })
    else if have_reported at then Ok (next_stage at)
    else Err (record { leader = at; fault = next.NotFinished })

-- the move ends, if the last stage runs and each partition that a segment of it moves into has
-- reported
abbrev pub answer_to_finish : StageValue → Result StageValue (Refused StageValue FinishFault)
answer_to_finish at =
    if is_last at && have_reported at then Ok at
    else Err (record { leader = at; fault = finish.NotFinished })
