-- Why an input can't be run, and what a reader of its header answers.
use Rattle.std.specs.Prelude.{◌≡◌, ◌≢◌, ℕ, Result, Ok, Err}
use Rattle.sq_plan.specs.Fault.{plan_fault_number}
use Rattle.sq_moves.specs.OpeningFaults.{opening_fault_number}
use Rattle.sq_schema.specs.Fault.{memory_number}
use Rattle.sq_text.specs.Faults.{line_fault_number}
use Rattle.sq_text.specs.declared.fault.LineFault.TheVariants as lines
use Rattle.sq_text.specs.declared.input_fault.InputFault.{InputFault}
use Rattle.sq_text.specs.declared.input_fault.InputFault.TheVariants.{Plan, Opening, BadHeader, TooLong, ReadFailed, Memory, LineTooLong}

-- the number that a user sees
abbrev pub input_fault_number : InputFault → ℕ
input_fault_number (Plan fault) = plan_fault_number fault
input_fault_number (Opening fault) = opening_fault_number fault
input_fault_number BadHeader = 121
input_fault_number TooLong = 122
input_fault_number ReadFailed = 123
input_fault_number Memory = memory_number
input_fault_number LineTooLong = line_fault_number lines.TooLong

-- the answer, seen by view, is this
abbrev pub IsRead : {X Y : Type 0} → (X → Y) → Result X InputFault → Result Y InputFault → Type 0
IsRead view (Ok x) wanted = wanted ≡ Ok (view x)
IsRead view (Err fault) wanted = wanted ≡ Err fault

-- the answer, seen by view, is this, unless memory ran out
abbrev pub IsReadGivenMemory : {X Y : Type 0} → (X → Y) → Result X InputFault → Result Y InputFault → Type 0
IsReadGivenMemory view (Ok x) wanted = wanted ≡ Ok (view x)
IsReadGivenMemory view (Err fault) wanted = fault ≢ Memory → wanted ≡ Err fault
