use Rattle.std.proofs.Common.{rules, ◌≡◌, ◌+◌, ◌-◌, ◌∷◌, [], ap, sym, ◌∙◌, length, length-append, map, arith}
use Rattle.std.proofs.lemmas.List.{length-map}
use Rattle.std.specs.Prelude.{slice_set}
use Rattle.std.specs.VecDeque.{deque_len, deque_capacity}
use Rattle.sq_node.proofs.Rooms.{fewer_rooms, same_count, set_same}
use Rattle.sq_node.proofs.fabric.left.post_left.Goals as goal

pub unreachable-requires-in_default-pop : goal.unreachable-requires-in_default-pop
unreachable-requires-in_default-pop c =
    let left = c.loop-part.left.items in
    let rooms = c.loop-part.rooms.items in
    let some : length left ≡ length c.pop.new.self.items + 1 = ap length c.in-Some.ensures.items ∙ length-append c.pop.new.self.items (c.in-Some.jobs ∷ []) in
    let none : length rooms ≡ 0 = search rules in
    let same = same_count (map (λ js. length js.items) left) (map (λ one. deque_capacity one - deque_len one) rooms) c.loop-part.invariant.room in
    let counts : length left ≡ length rooms = sym (length-map left (λ js. length js.items)) ∙ same ∙ length-map rooms (λ one. deque_capacity one - deque_len one) in
    omega (arith, some, none, counts)

pub queue_left-posts-requires : goal.queue_left-posts-requires
queue_left-posts-requires c =
    (fewer_rooms (λ js. length js.items) (λ one. deque_capacity one - deque_len one) c.loop-part.left.items c.pop.new.self.items c.loop-part.rooms.items c.pop-in-loop-part.new.self.items c.in-Some.jobs c.in-Some-pop.room
    c.in-Some.ensures.items c.in-Some-pop.ensures.items c.loop-part.invariant.room).1

pub loop-part-preserved : goal.loop-part-preserved
loop-part-preserved c =
    let count : length c.loop-part.left.items ≡ length c.pop.new.self.items + 1 = ap length c.in-Some.ensures.items ∙ length-append c.pop.new.self.items (c.in-Some.jobs ∷ []) in
    record {
      room = (fewer_rooms (λ js. length js.items) (λ one. deque_capacity one - deque_len one) c.loop-part.left.items c.pop.new.self.items c.loop-part.rooms.items c.pop-in-loop-part.new.self.items c.in-Some.jobs c.in-Some-pop.room
          c.in-Some.ensures.items c.in-Some-pop.ensures.items c.loop-part.invariant.room).0;
      rest = omega (arith, count, c.loop-part.invariant.rest);
      nodes = ap (slice_set c.loop-part.nodes.items c.len-at.result) c.keep_posts.ensures ∙ set_same c.loop-part.nodes.items c.len-at.result c.index_mut.result.now c.index_mut.ensures.value ∙ c.loop-part.invariant.nodes;
      fabric = c.queue_left-posts.ensures ∙ c.loop-part.invariant.fabric;
    }
