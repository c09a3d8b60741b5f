use Rattle.std.proofs.Common.{◌≡◌, ℕ, ◌+◌, ◌<◌, ◌≤◌, List, ◌++◌, length, reverse, vec_capacity}
use Rattle.sq_store.specs.StoreValue.{StoreValue}
use Rattle.sq_node.specs.Ends.{src_of, dst_of}
use Rattle.sq_node.specs.Opened.{HasEnds, GivesOut, AreNewNodesFrom}
use Rattle.sq_node.proofs.fabric.workers.open_nodes.Given as goal

-- the nodes so far are those of the last partitions, from the last one down
abbrev pub invariant-loop-store : goal.invariant-loop-store
invariant-loop-store l = record {
  same : l.fabric ≡ record l.initial.fabric { seats = l.fabric.seats };
  taken : List StoreValue;
  left : l.initial.stores.items ≡ l.stores.items ++ taken;
  nodes : AreNewNodesFrom l.opening l.fabric (length l.stores.items) taken (reverse l.nodes.items);
  seats : GivesOut (length taken) l.initial.fabric l.fabric;
  room : vec_capacity l.nodes ≡ l.opening.old.parts;
  capacity : vec_capacity l.stores ≡ vec_capacity l.initial.stores;
  sends : (part : ℕ) → part < length l.stores.items → HasEnds src_of l.fabric.links l.ends.sends.items part;
  recvs : (part : ℕ) → part < length l.stores.items → HasEnds dst_of l.fabric.links l.ends.recvs.items part;
}

abbrev pub decreases-loop-store : goal.decreases-loop-store
decreases-loop-store l = length l.stores.items
