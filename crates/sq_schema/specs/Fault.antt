-- The numbers of faults, as a user sees them.
use Rattle.std.specs.Prelude.{ℕ}
use Rattle.sq_schema.specs.declared.fault.TxnFault.{TxnFault}
use Rattle.sq_schema.specs.declared.fault.TxnFault.TheVariants as txn
use Rattle.sq_schema.specs.declared.fault.ApplyFault.{ApplyFault}
use Rattle.sq_schema.specs.declared.fault.ApplyFault.TheVariants as apply
use Rattle.sq_schema.specs.declared.fault.RowFault.{RowFault}
use Rattle.sq_schema.specs.declared.fault.RowFault.TheVariants as row

-- memory ran out
abbrev pub memory_number : ℕ
memory_number = 222

abbrev pub txn_fault_number : TxnFault → ℕ
txn_fault_number txn.BadOps = 131
txn_fault_number txn.BadRoot = 132
txn_fault_number txn.BadTable = 133
txn_fault_number txn.BadSub = 134
txn_fault_number txn.BadNote = 135

abbrev pub apply_fault_number : ApplyFault → ℕ
apply_fault_number apply.LogFull = 221
apply_fault_number apply.Memory = memory_number

abbrev pub row_fault_number : RowFault → ℕ
row_fault_number row.RowRepeated = 136
row_fault_number row.NoRootRow = 137
row_fault_number row.Memory = memory_number
