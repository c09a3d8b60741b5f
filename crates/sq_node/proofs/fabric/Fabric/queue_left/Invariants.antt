use Rattle.std.proofs.Common.{◌≡◌, ◌-◌, ◌≤◌, length}
use Rattle.std.specs.Vec.Iter.{into_iter_items}
use Rattle.std.specs.VecDeque.{deque_len, deque_capacity}
use Rattle.sq_node.proofs.fabric.Fabric.queue_left.Given as goal

-- there is room for the jobs that are still to come
abbrev pub invariant-loop-job : goal.invariant-loop-job
invariant-loop-job l =
    (goal.iterator-loop-job).can_next l.job-iterator ×
    (goal.iterator-loop-job).is_finite l.job-iterator ×
    (length (into_iter_items l.job-iterator) ≤ deque_capacity l.posts - deque_len l.posts) ×
    (l.self ≡ l.fn.self)
