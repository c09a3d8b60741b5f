use Rattle.std.proofs.Common.{take}
use Rattle.sq_results.specs.Answered.{IsToldAfter}
use Rattle.sq_results.proofs.replies.Replies.take.Given as goal

-- the receipts so far were taken
abbrev pub invariant-loop-receipt : goal.invariant-loop-receipt
invariant-loop-receipt l = IsToldAfter l.initial.self (take l.receipt-index l.receipts) l.self
