use Rattle.std.proofs.Common.{◌≡◌, vec_capacity}
use Rattle.sq_driver.specs.Told.{nodes_of}
use Rattle.sq_engine_tests.proofs.tests.ending.take_told.Given as goal

-- some nodes were taken from their collectors, and there is room for the rest
abbrev pub invariant-loop-pair : goal.invariant-loop-pair
invariant-loop-pair l = record {
  nodes : l.nodes.items ≡ nodes_of l.yielded;
  room : vec_capacity l.nodes ≡ vec_capacity l.initial.nodes;
}
