-- The numbers of faults, as a user sees them.
use Rattle.std.specs.Prelude.{ℕ}
use Rattle.sq_moves.specs.declared.tree_fault.SplitFault.{SplitFault}
use Rattle.sq_moves.specs.declared.tree_fault.SplitFault.TheVariants as split
use Rattle.sq_moves.specs.declared.tree_fault.ClaimFault.{ClaimFault}
use Rattle.sq_moves.specs.declared.tree_fault.ClaimFault.TheVariants as claim
use Rattle.sq_moves.specs.declared.tree_fault.BeginFault.{BeginFault}
use Rattle.sq_moves.specs.declared.tree_fault.BeginFault.TheVariants as begin
use Rattle.sq_moves.specs.declared.tree_fault.CompleteFault.{CompleteFault}
use Rattle.sq_moves.specs.declared.tree_fault.CompleteFault.TheVariants as complete

abbrev pub split_fault_number : SplitFault → ℕ
split_fault_number split.IsLeaf = 206
split_fault_number split.NotLive = 205
split_fault_number (split.NotFree _) = 204

abbrev pub claim_fault_number : ClaimFault → ℕ
claim_fault_number claim.NotLive = 205
claim_fault_number (claim.NotFree _) = 204

abbrev pub begin_fault_number : BeginFault → ℕ
begin_fault_number (begin.NotClaimed _) = 207
begin_fault_number begin.WrongPull = 208

abbrev pub complete_fault_number : CompleteFault → ℕ
complete_fault_number (complete.NotPartial _) = 227
complete_fault_number complete.WrongPull = 208
