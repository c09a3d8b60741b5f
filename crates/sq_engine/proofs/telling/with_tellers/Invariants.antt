use Rattle.std.proofs.Common.{◌≡◌, ◌++◌, vec_capacity}
use Rattle.sq_driver.specs.Told.{nodes_of}
use Rattle.sq_engine.specs.Telling.{tellers_of}
use Rattle.sq_engine.proofs.telling.with_tellers.Given as goal

-- some nodes have their tellers, and there is room for the rest
abbrev pub invariant-loop-node : goal.invariant-loop-node
invariant-loop-node l = record {
  nodes : nodes_of l.pairs.items ≡ l.yielded;
  tellers : tellers_of l.pairs.items ++ l.tellers.items ≡ l.initial.tellers.items;
  room : vec_capacity l.pairs ≡ vec_capacity l.initial.pairs;
}
