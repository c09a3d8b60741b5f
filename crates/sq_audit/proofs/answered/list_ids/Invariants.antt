use Rattle.std.proofs.Common.{◌≡◌, map, take}
use Rattle.sq_audit.specs.ById.{id_and_root}
use Rattle.sq_audit.proofs.answered.list_ids.Given as goal

abbrev pub invariant-loop-receipt : goal.invariant-loop-receipt
invariant-loop-receipt l = l.ids.items ≡ map id_and_root (take l.receipt-index l.receipts)
