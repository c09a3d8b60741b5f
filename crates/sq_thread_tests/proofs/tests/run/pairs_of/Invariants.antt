use Rattle.std.proofs.Common.{◌≡◌, vec_capacity}
use Rattle.sq_driver.specs.Told.{nodes_of}
use Rattle.sq_thread_tests.proofs.tests.run.pairs_of.Given as goal

-- some nodes have their tellers, and there is room for the rest
abbrev pub invariant-loop-node : goal.invariant-loop-node
invariant-loop-node l = record {
  nodes : nodes_of l.pairs.items ≡ l.yielded;
  room : vec_capacity l.pairs ≡ vec_capacity l.initial.pairs;
}
