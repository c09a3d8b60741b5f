use Rattle.std.proofs.Common.{◌≡◌, ◌+◌, ◌-◌, length, map}
use Rattle.std.specs.VecDeque.{deque_len, deque_capacity}
use Rattle.sq_node.specs.Left.{HaveRoom}
use Rattle.sq_node.proofs.fabric.left.post_left.Given as goal

-- the jobs of the partitions so far are posted, and there is room for those of the others
abbrev pub invariant-loop-part : goal.invariant-loop-part
invariant-loop-part l = record {
  room : HaveRoom (map (λ jobs. length jobs.items) l.left.items) (map (λ room. deque_capacity room - deque_len room) l.rooms.items);
  rest : length l.left.items + l._part ≡ length l.initial.left.items;
  nodes : l.nodes.items ≡ l.initial.nodes.items;
  fabric : l.fabric ≡ l.initial.fabric;
}
