use Rattle.std.proofs.Common.{◌≡◌, ◌++◌, length}
use Rattle.std.specs.Vec.Iter.{into_iter_items, into_iter_len}
use Rattle.sq_gather.specs.GatheringValue.{HasRoomFor, AddsNodes}
use Rattle.sq_gather.proofs.gathering.Gathering.add_nodes.Given as goal

-- the nodes so far are added, and there is room for the others
abbrev pub invariant-loop-node : goal.invariant-loop-node
invariant-loop-node l = record {
  adds : AddsNodes l.initial.self l.yielded l.self;
  ends : length l.self.ends ≡ length l.initial.self.ends;
  room : HasRoomFor l.self (into_iter_items l.node-iterator);
  rest : l.yielded ++ into_iter_items l.node-iterator ≡ into_iter_items l.initial.node-iterator;
  left : into_iter_len l.node-iterator ≡ length (into_iter_items l.node-iterator);
}
