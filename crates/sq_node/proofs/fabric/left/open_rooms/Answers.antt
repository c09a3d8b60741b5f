use Rattle.std.proofs.Common.{rules, ◌≡◌, ◌+◌, ◌-◌, ◌≤◌, length, map, take, sym, subst, arith}
use Rattle.std.specs.VecDeque.{deque_len, deque_capacity}
use Rattle.sq_node.specs.Left.{HaveRoom}
use Rattle.sq_node.proofs.Rooms.{more_rooms}
use Rattle.sq_node.proofs.fabric.left.open_rooms.Goals as goal

pub loop-jobs-preserved : goal.loop-jobs-preserved
loop-jobs-preserved c =
    let left = c.args.left.now in
    let i = c.loop-jobs.jobs-index in
    let jobs = c.jobs-item.result in
    let made = c.in_ok-with_capacity.field-0 in
    let count : c.len.result ≡ length jobs.items = search rules in
    let fits : length jobs.items ≤ deque_capacity made - deque_len made = omega (arith, count, c.in_ok-with_capacity.ensures.capacity, c.in_ok-with_capacity.ensures.len) in
    subst (λ rooms. HaveRoom (map (λ js. length js.items) (take (i + 1) left)) (map (λ room. deque_capacity room - deque_len room) rooms)) (sym c.in_ok-push.ensures.items)
    (more_rooms (λ js. length js.items) (λ room. deque_capacity room - deque_len room) left c.loop-jobs.rooms.items i jobs made c.loop-jobs-test.true c.jobs-item.is c.loop-jobs.invariant fits)
