use Rattle.std.proofs.Common.{◌≡◌}
use Rattle.sq_tests.proofs.tests.link.receive_all.Given as goal

abbrev pub invariant-loop : goal.invariant-loop
invariant-loop g l = l.pass.queue ≡ l.link.queue
