-- The numbers of the faults of lines after the header, as a user sees them.
use Rattle.std.specs.Prelude.{ℕ}
use Rattle.sq_schema.specs.Fault.{memory_number, txn_fault_number}
use Rattle.sq_plan.specs.Fault.{plan_fault_number}
use Rattle.sq_serving.specs.declared.serve_fault.ServeFault.{ServeFault}
use Rattle.sq_serving.specs.declared.serve_fault.ServeFault.TheVariants.{NotAServeLine, TooLong, Txn, Plan, Memory}

abbrev pub serve_fault_number : ServeFault → ℕ
serve_fault_number NotAServeLine = 126
serve_fault_number TooLong = 231
serve_fault_number (Txn fault) = txn_fault_number fault
serve_fault_number (Plan fault) = plan_fault_number fault
serve_fault_number Memory = memory_number
