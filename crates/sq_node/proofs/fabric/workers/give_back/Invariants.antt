use Rattle.std.proofs.Common.{◌≡◌, ℕ, ◌+◌, ◌≤◌, ◌++◌, length, map, reverse, vec_capacity}
use Rattle.sq_node.specs.NodeState.{NodeState}
use Rattle.sq_node.proofs.fabric.workers.give_back.Given as goal

-- what is given back and what is still with nodes
abbrev pub invariant-loop-node : goal.invariant-loop-node
invariant-loop-node l = record {
  whole : l.stores.items ++ map (λ (node : NodeState). node.core.store) (reverse l.nodes.items) ≡ l.initial.stores.items ++ map (λ (node : NodeState). node.core.store) (reverse l.initial.nodes.items);
  room : length l.stores.items + length l.nodes.items ≤ vec_capacity l.stores;
  capacity : vec_capacity l.stores ≡ vec_capacity l.initial.stores;
}

abbrev pub decreases-loop-node : goal.decreases-loop-node
decreases-loop-node l = length l.nodes.items
