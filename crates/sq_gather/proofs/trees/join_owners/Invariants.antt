use Rattle.std.proofs.Common.{◌≡◌, ◌++◌, length, map}
use Rattle.std.specs.Vec.Iter.{into_iter_items, into_iter_len}
use Rattle.sq_shared.specs.Seats.{AreSeatsOf}
use Rattle.sq_node.specs.FabricValue.{AreFirst}
use Rattle.sq_gather.specs.Trees.{AreJoined}
use Rattle.sq_gather.proofs.trees.join_owners.Given as goal

-- the seats of the owners so far were joined
abbrev pub invariant-loop-seats : goal.invariant-loop-seats
invariant-loop-seats l = record {
  of : AreSeatsOf l.trees l.first.items;
  first : AreFirst l.first.items;
  joined : AreJoined l.initial.first.items (map (λ owner. owner.items) l.yielded) l.first.items;
  rest : l.yielded ++ into_iter_items l.seats-iterator ≡ into_iter_items l.initial.seats-iterator;
  left : into_iter_len l.seats-iterator ≡ length (into_iter_items l.seats-iterator);
}
