use Rattle.std.proofs.Common.{length, map, take, ◌-◌}
use Rattle.std.specs.VecDeque.{deque_len, deque_capacity}
use Rattle.sq_node.specs.Left.{HaveRoom}
use Rattle.sq_node.proofs.fabric.left.open_rooms.Given as goal

-- there is room for the jobs of the partitions so far
abbrev pub invariant-loop-jobs : goal.invariant-loop-jobs
invariant-loop-jobs l = HaveRoom (map (λ jobs. length jobs.items) (take l.jobs-index l.left)) (map (λ room. deque_capacity room - deque_len room) l.rooms.items)
