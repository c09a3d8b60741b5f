-- What a reader answers, compared with what can be read, and the number of its fault.
use Rattle.std.specs.Prelude.{◌≡◌, ℕ, Option, Some, None, Result, Ok, Err}
use Rattle.sq_schema.specs.Fault.{memory_number, txn_fault_number}
use Rattle.sq_text.specs.declared.fault.Malformed.{Malformed}
use Rattle.sq_text.specs.declared.fault.ReadFault.{ReadFault}
use Rattle.sq_text.specs.declared.fault.ReadFault.TheVariants as faults
use Rattle.sq_text.specs.declared.fault.LineFault.{LineFault}
use Rattle.sq_text.specs.declared.fault.LineFault.TheVariants as lines

-- the answer, seen by view, is what is there
abbrev pub IsParsed : {X Y : Type 0} → (X → Y) → Result X Malformed → Option Y → Type 0
IsParsed view (Ok x) there = there ≡ Some (view x)
IsParsed view (Err malformed) there = there ≡ None

-- the answer, seen by view, is what is there, unless memory ran out
abbrev pub IsParsedGivenMemory : {X Y : Type 0} → (X → Y) → Result X ReadFault → Option Y → Type 0
IsParsedGivenMemory view (Ok x) there = there ≡ Some (view x)
IsParsedGivenMemory view (Err faults.Malformed) there = there ≡ None
IsParsedGivenMemory view (Err faults.Memory) there = Unit {0}

-- the number that a user sees
abbrev pub line_fault_number : LineFault → ℕ
line_fault_number lines.NotAStep = 230
line_fault_number lines.TooLong = 231
line_fault_number (lines.Txn fault) = txn_fault_number fault
line_fault_number lines.Memory = memory_number

-- the wanted step or its fault, unless memory ran out
abbrev pub IsStep : {A : Type 0} → Result A LineFault → Result A LineFault → Type 0
IsStep (Err lines.Memory) wanted = Unit {0}
IsStep read wanted = read ≡ wanted
