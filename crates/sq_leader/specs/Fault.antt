-- The numbers of faults, as a user sees them.
use Rattle.std.specs.Prelude.{ℕ}
use Rattle.sq_leader.specs.declared.fault.PrepareFault.{PrepareFault}
use Rattle.sq_leader.specs.declared.fault.PrepareFault.TheVariants as prepare
use Rattle.sq_leader.specs.declared.fault.StartFault.{StartFault}
use Rattle.sq_leader.specs.declared.fault.StartFault.TheVariants as start
use Rattle.sq_leader.specs.declared.fault.ReportFault.{ReportFault}
use Rattle.sq_leader.specs.declared.fault.ReportFault.TheVariants as report
use Rattle.sq_leader.specs.declared.fault.StageFault.{StageFault}
use Rattle.sq_leader.specs.declared.fault.StageFault.TheVariants as stage
use Rattle.sq_leader.specs.declared.fault.NextFault.{NextFault}
use Rattle.sq_leader.specs.declared.fault.NextFault.TheVariants as next
use Rattle.sq_leader.specs.declared.fault.FinishFault.{FinishFault}
use Rattle.sq_leader.specs.declared.fault.FinishFault.TheVariants as finish

abbrev pub prepare_fault_number : PrepareFault → ℕ
prepare_fault_number prepare.NoSuchPartition = 219

abbrev pub start_fault_number : StartFault → ℕ
start_fault_number start.NotPrepared = 228

abbrev pub report_fault_number : ReportFault → ℕ
report_fault_number report.NoSuchPartition = 219
report_fault_number report.NotFinished = 218

abbrev pub stage_fault_number : StageFault → ℕ
stage_fault_number stage.OtherStage = 218

abbrev pub next_fault_number : NextFault → ℕ
next_fault_number next.LastStage = 225
next_fault_number next.NotFinished = 218

abbrev pub finish_fault_number : FinishFault → ℕ
finish_fault_number finish.NotFinished = 218
