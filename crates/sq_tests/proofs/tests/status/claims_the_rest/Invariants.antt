use Rattle.std.proofs.Common.{◌≡◌, true}
use Rattle.sq_tests.proofs.tests.status.claims_the_rest.Given as goal

abbrev pub invariant-loop-pull : goal.invariant-loop-pull
invariant-loop-pull l = (l.seat.tree ≡ l.tree) × (l.seat.view.first ≡ true)
