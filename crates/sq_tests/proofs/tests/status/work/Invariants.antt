use Rattle.std.proofs.Common.{◌≡◌}
use Rattle.sq_tests.proofs.tests.status.work.Given as goal

abbrev pub invariant-loop-node : goal.invariant-loop-node
invariant-loop-node l = l.seat.tree ≡ l.tree

abbrev pub invariant-loop-round : goal.invariant-loop-round
invariant-loop-round l = l.seat.tree ≡ l.tree
