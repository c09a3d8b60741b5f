-- Faults of a reconfiguration and of an opening: the first as the second, and their numbers as a
-- user sees them.
use Rattle.std.specs.Prelude.{ℕ}
use Rattle.sq_schema.specs.declared.fault.RowFault.{RowFault}
use Rattle.sq_schema.specs.declared.fault.RowFault.TheVariants as row
use Rattle.sq_schema.specs.Fault.{memory_number, txn_fault_number, row_fault_number}
use Rattle.sq_moves.specs.declared.opening_fault.ReconFault.{ReconFault}
use Rattle.sq_moves.specs.declared.opening_fault.ReconFault.TheVariants as recon
use Rattle.sq_moves.specs.declared.opening_fault.OpeningFault.{OpeningFault}
use Rattle.sq_moves.specs.declared.opening_fault.OpeningFault.TheVariants as opening

-- a fault of the plans, as one of the opening
abbrev pub of_recon : ReconFault → OpeningFault
of_recon recon.Memory = opening.Memory
of_recon fault = opening.Recon fault

-- a fault of the row with this number in its place, as one of the opening
abbrev pub of_row : ℕ → RowFault → OpeningFault
of_row at row.Memory = opening.Memory
of_row at fault = opening.Place at fault

abbrev pub recon_fault_number : ReconFault → ℕ
recon_fault_number recon.PartitionsDiffer = 111
recon_fault_number recon.Width = 112
recon_fault_number recon.TooManySegments = 113
recon_fault_number recon.Memory = memory_number

abbrev pub opening_fault_number : OpeningFault → ℕ
opening_fault_number (opening.Recon fault) = recon_fault_number fault
opening_fault_number opening.Limit = 114
opening_fault_number opening.Capacity = 115
opening_fault_number (opening.Row at fault) = txn_fault_number fault
opening_fault_number (opening.Place at fault) = row_fault_number fault
opening_fault_number opening.Memory = memory_number
