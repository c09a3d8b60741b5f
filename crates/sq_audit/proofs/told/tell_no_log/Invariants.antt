use Rattle.sq_gather.specs.Prelude.{rows_in}
use Rattle.sq_audit.specs.Located.{entries_in}
use Rattle.sq_audit.specs.Told.{TellsNoLog}
use Rattle.sq_audit.proofs.Each.{EachTo}
use Rattle.sq_audit.proofs.told.tell_no_log.Given as goal

abbrev pub invariant-loop-receipt : goal.invariant-loop-receipt
invariant-loop-receipt l = EachTo (TellsNoLog (rows_in l.table) (entries_in l.all)) l.receipts l.receipt-index
