use Rattle.std.proofs.Common.{◌≤◌}
use Rattle.sq_audit.specs.Told.{values_of}
use Rattle.sq_audit.proofs.Retold.{RetoldTo}
use Rattle.sq_audit.proofs.told.replay.Given as goal

-- the receipts so far tell a log of this length, which leaves these rows
abbrev pub invariant-loop-receipt : goal.invariant-loop-receipt
invariant-loop-receipt l = record {
  few : l.position ≤ l.receipt-index;
  told : RetoldTo l.family l.fn.opening (values_of l.receipts) l.receipt-index l.position l.rows;
}
