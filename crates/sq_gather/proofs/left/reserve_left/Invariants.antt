use Rattle.std.proofs.Common.{map, vec_capacity}
use Rattle.sq_gather.specs.Left.{AreRooms}
use Rattle.sq_gather.proofs.left.reserve_left.Given as goal

-- there is a room for each of the partitions so far
abbrev pub invariant-loop-part : goal.invariant-loop-part
invariant-loop-part l = AreRooms l._part (map (λ jobs. (jobs.items, vec_capacity jobs)) l.left.items)
