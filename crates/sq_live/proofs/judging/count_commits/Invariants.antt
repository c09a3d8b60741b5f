use Rattle.std.proofs.Common.{◌≡◌, ◌≤◌, take}
use Rattle.sq_live.specs.Outcome.{commit_count}
use Rattle.sq_live.proofs.judging.count_commits.Given as goal

abbrev pub invariant-loop-receipt : goal.invariant-loop-receipt
invariant-loop-receipt l = (l.count ≡ commit_count (take l.receipt-index l.receipts)) × (l.count ≤ l.receipt-index)
