use Rattle.std.proofs.Common.{◌≡◌, true}
use Rattle.sq_tests.proofs.tests.status.split_down_to_leaves.Given as goal

abbrev pub invariant-loop-node : goal.invariant-loop-node
invariant-loop-node l = (l.seat.tree ≡ l.tree) × (l.seat.view.first ≡ true)
