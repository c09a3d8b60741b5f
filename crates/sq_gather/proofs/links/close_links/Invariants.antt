use Rattle.std.proofs.Common.{◌≡◌, ◌≤◌, ◌++◌, length, vec_capacity}
use Rattle.std.specs.Vec.Iter.{into_iter_items, into_iter_len}
use Rattle.sq_gather.proofs.Linked.{Closes}
use Rattle.sq_gather.proofs.links.close_links.Given as goal

-- the links so far are closed with their ends
abbrev pub invariant-loop-link : goal.invariant-loop-link
invariant-loop-link g l = record {
  closed : Closes l.yielded (into_iter_items l.initial.left) (into_iter_items l.left) l.room.items;
  links : l.yielded ++ into_iter_items l.link-iterator ≡ into_iter_items l.initial.link-iterator;
  few : into_iter_len l.link-iterator ≡ length (into_iter_items l.link-iterator);
  ends : into_iter_len l.left ≡ length (into_iter_items l.left);
  room : length (into_iter_items l.initial.link-iterator) ≤ vec_capacity l.room;
}
