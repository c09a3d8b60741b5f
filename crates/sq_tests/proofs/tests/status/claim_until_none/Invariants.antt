use Rattle.std.proofs.Common.{◌≡◌}
use Rattle.sq_tests.proofs.tests.status.claim_until_none.Given as goal

abbrev pub invariant-loop : goal.invariant-loop
invariant-loop l = l.seat.tree ≡ l.tree
