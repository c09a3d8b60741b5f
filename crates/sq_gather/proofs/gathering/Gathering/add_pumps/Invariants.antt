use Rattle.std.proofs.Common.{◌≡◌, ◌+◌, ◌≤◌, ◌++◌, length, map}
use Rattle.std.specs.Vec.Iter.{into_iter_items, into_iter_len}
use Rattle.sq_gather.proofs.gathering.Gathering.add_pumps.Given as goal

-- the seats of the pumps so far are added, and there is room for the others
abbrev pub invariant-loop-pump : goal.invariant-loop-pump
invariant-loop-pump l = record {
  adds : l.self ≡ record l.initial.self { owners = l.initial.self.owners ++ map (λ pump. pump.seats) l.yielded };
  room : length l.self.owners + length (into_iter_items l.pump-iterator) ≤ l.self.room.owners;
  rest : l.yielded ++ into_iter_items l.pump-iterator ≡ into_iter_items l.initial.pump-iterator;
  left : into_iter_len l.pump-iterator ≡ length (into_iter_items l.pump-iterator);
}
