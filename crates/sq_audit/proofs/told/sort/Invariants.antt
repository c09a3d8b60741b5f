use Rattle.std.proofs.Common.{◌≡◌, take}
use Rattle.sq_audit.specs.Told.{values_of}
use Rattle.sq_audit.proofs.told.sort.Given as goal

abbrev pub invariant-loop-receipt : goal.invariant-loop-receipt
invariant-loop-receipt l = values_of l.sorted.items ≡ take l.receipt-index l.receipts
