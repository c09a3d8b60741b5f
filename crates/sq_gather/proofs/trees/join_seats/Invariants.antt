use Rattle.std.proofs.Common.{vec_len}
use Rattle.sq_gather.proofs.Joining.{Joins}
use Rattle.sq_gather.proofs.trees.join_seats.Given as goal

-- the seats that are taken were joined
abbrev pub invariant-loop-seat : goal.invariant-loop-seat
invariant-loop-seat l = Joins l.trees l.initial.first.items l.initial.seats.items l.first.items l.seats.items

abbrev pub decreases-loop-seat : goal.decreases-loop-seat
decreases-loop-seat l = vec_len l.seats
