-- The numbers of faults, as a user sees them.
use Rattle.std.specs.Prelude.{ℕ}
use Rattle.sq_schema.specs.Fault.{memory_number}
use Rattle.sq_exec.specs.declared.fault.SubmitFault.{SubmitFault}
use Rattle.sq_exec.specs.declared.fault.SubmitFault.TheVariants as submit
use Rattle.sq_exec.specs.declared.fault.ResumeFault.{ResumeFault}
use Rattle.sq_exec.specs.declared.fault.ResumeFault.TheVariants as resume
use Rattle.sq_exec.specs.declared.fault.CutFault.{CutFault}
use Rattle.sq_exec.specs.declared.fault.CutFault.TheVariants as cut
use Rattle.sq_exec.specs.declared.fault.LoadFault.{LoadFault}
use Rattle.sq_exec.specs.declared.fault.LoadFault.TheVariants as load

abbrev pub submit_fault_number : SubmitFault → ℕ
submit_fault_number submit.WaitFull = 220
submit_fault_number submit.LogFull = 221
submit_fault_number submit.Memory = memory_number

abbrev pub resume_fault_number : ResumeFault → ℕ
resume_fault_number resume.NoneReady = 223
resume_fault_number resume.LogFull = 221
resume_fault_number resume.Memory = memory_number

abbrev pub cut_fault_number : CutFault → ℕ
cut_fault_number cut.OutboxFull = 210
cut_fault_number cut.NothingToCut = 209
cut_fault_number cut.Memory = memory_number

abbrev pub load_fault_number : LoadFault → ℕ
load_fault_number load.InboxEmpty = 215
load_fault_number load.Memory = memory_number
