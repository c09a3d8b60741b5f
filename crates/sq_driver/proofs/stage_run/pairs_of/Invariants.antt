use Rattle.std.proofs.Common.{◌≡◌, [], ◌++◌, vec_capacity}
use Rattle.std.specs.Prelude.{All}
use Rattle.std.specs.Vec.Iter.{into_iter_items}
use Rattle.sq_driver.specs.Told.{nodes_of}
use Rattle.sq_driver.proofs.stage_run.pairs_of.Given as goal

-- some nodes have their tellers, which have collected nothing, and there is room for the rest
abbrev pub invariant-loop-node : goal.invariant-loop-node
invariant-loop-node l = record {
  nodes : nodes_of l.pairs.items ≡ l.yielded;
  empty : All (λ pair. pair.teller.receipts.items ≡ []) l.pairs.items;
  room : vec_capacity l.pairs ≡ vec_capacity l.initial.pairs;
  rest : l.yielded ++ into_iter_items l.node-iterator ≡ into_iter_items l.initial.node-iterator;
}
