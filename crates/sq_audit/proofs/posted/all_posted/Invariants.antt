use Rattle.sq_audit.specs.Answers.{IsPosted}
use Rattle.sq_audit.proofs.Each.{EachTo}
use Rattle.sq_audit.proofs.posted.all_posted.Given as goal

abbrev pub invariant-loop-receipt : goal.invariant-loop-receipt
invariant-loop-receipt l = EachTo (IsPosted l.jobs) l.receipts l.receipt-index
