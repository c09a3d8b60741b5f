use Rattle.std.proofs.Common.{◌≡◌}
use Rattle.sq_node.proofs.desk.Desk.send_pending.Given as goal

-- the receipts stay
abbrev pub invariant-loop-post : goal.invariant-loop-post
invariant-loop-post g l = l.self-inside.receipts.items ≡ l.initial.self-inside.receipts.items
