-- The numbers of faults, as a user sees them.
use Rattle.std.specs.Prelude.{ℕ}
use Rattle.sq_schema.specs.Fault.{memory_number}
use Rattle.sq_plan.specs.declared.fault.PlanFault.{PlanFault}
use Rattle.sq_plan.specs.declared.fault.PlanFault.TheVariants.{NotJson, Shape, Version, PartitionCount, RangeOrder, PartitionNumber, TooManyRanges, BadStages, Memory}

abbrev pub plan_fault_number : PlanFault → ℕ
plan_fault_number NotJson = 101
plan_fault_number Shape = 102
plan_fault_number Version = 103
plan_fault_number PartitionCount = 104
plan_fault_number RangeOrder = 105
plan_fault_number PartitionNumber = 106
plan_fault_number TooManyRanges = 107
plan_fault_number BadStages = 108
plan_fault_number Memory = memory_number
