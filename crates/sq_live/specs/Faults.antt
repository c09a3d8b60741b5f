-- The numbers of the faults of a live run, as a user sees them, and their lines.
use Rattle.std.specs.Prelude.{ℕ, None}
use Rattle.sq_schema.specs.Fault.{memory_number, txn_fault_number}
use Rattle.sq_driver.specs.declared.attendance.WorkersEnd.{WorkersEnd}
use Rattle.sq_driver.specs.declared.attendance.WorkersEnd.TheVariants.{Done, LacksThreads, LacksMemory}
use Rattle.sq_text.specs.declared.input_fault.InputFault.TheVariants as input
use Rattle.sq_text.specs.InputFaults.{input_fault_number}
use Rattle.sq_text.specs.Located.{located}
use Rattle.sq_live.specs.declared.fault.JobFault.{JobFault}
use Rattle.sq_live.specs.declared.fault.JobFault.TheVariants.{TooMany, NotAJob, RepeatedId, Txn, NoSuchPartition, LineTooLong, Memory}
use Rattle.sq_live.specs.declared.fault.LiveFault.{LiveFault}
use Rattle.sq_live.specs.declared.fault.LiveFault.TheVariants.{Input, Job, Threads}
use Rattle.sq_live.specs.declared.fault.RunFault.{RunFault}
use Rattle.sq_live.specs.declared.fault.RunFault.TheVariants as run

abbrev pub job_fault_number : JobFault → ℕ
job_fault_number TooMany = 125
job_fault_number NotAJob = 126
job_fault_number RepeatedId = 127
job_fault_number (Txn fault) = txn_fault_number fault
job_fault_number NoSuchPartition = 219
job_fault_number LineTooLong = 231
job_fault_number Memory = memory_number

abbrev pub live_fault_number : LiveFault → ℕ
live_fault_number (Input located) = input_fault_number located.fault
live_fault_number (Job told) = job_fault_number told.fault
live_fault_number Threads = memory_number

-- memory ran out, at no line
abbrev pub out_of_memory : LiveFault
out_of_memory = Input (located input.Memory None)

-- `fault` at the line of number `line`; a lack of memory has no line
abbrev pub fault_at : ℕ → JobFault → LiveFault
fault_at line Memory = out_of_memory
fault_at line fault = Job (record { fault = fault; line = line })

-- why a stage whose workers ended like this has no outcome
abbrev pub run_fault : WorkersEnd → RunFault
run_fault Done = run.Memory
run_fault LacksThreads = run.Threads
run_fault LacksMemory = run.Memory

-- the fault of an input whose run has no outcome for this reason
abbrev pub live_fault : RunFault → LiveFault
live_fault run.Memory = out_of_memory
live_fault run.Threads = Threads
