use Rattle.std.proofs.Common.{◌≡◌, vec_capacity}
use Rattle.sq_driver.specs.Told.{nodes_of}
use Rattle.sq_engine.proofs.telling.without_tellers.Given as goal

-- some nodes were taken from their tellers
abbrev pub invariant-loop-pair : goal.invariant-loop-pair
invariant-loop-pair l = record {
  nodes : l.nodes.items ≡ nodes_of l.yielded;
  room : vec_capacity l.nodes ≡ vec_capacity l.initial.nodes;
}
