use Rattle.std.proofs.Common.{◌≡◌, ℕ, [], ◌∷◌, List, length, sym, ap, ◌∙◌, subst, append_assoc, arith}
use Rattle.std.specs.Prelude.{slice_get}
use Rattle.std.specs.Vec.Iter.{into_iter_items}
use Rattle.sq_node.specs.NodeState.{NodeState}
use Rattle.sq_gather.specs.GatheringValue.{IsAddable}
use Rattle.sq_gather.proofs.Lists.{stands_after}
use Rattle.sq_gather.proofs.Adding.{adds_more, ends_kept, room_left}
use Rattle.sq_gather.proofs.gathering.Gathering.add_nodes.Goals as goal

pub add_node-requires-clause-ends : goal.add_node-requires-clause-ends
add_node-requires-clause-ends c =
    let at = c.loop-node in
    subst (λ (links : ℕ). IsAddable links c.in-Some.node) (sym at.invariant.ends)
    (c.requires.ends (length at.yielded) c.in-Some.node
    (ap (λ (all : List NodeState). slice_get all (length at.yielded)) (sym (at.invariant.rest ∙ c.into_iter-node-iterator.ensures.into_iter_gives.0))
    ∙ stands_after at.yielded c.in-Some.node (into_iter_items c.next.new.self) (into_iter_items at.node-iterator) c.in-Some.ensures.steps.0))

pub loop-node-preserved : goal.loop-node-preserved
loop-node-preserved c =
    let at = c.loop-node in
    let steps : into_iter_items at.node-iterator ≡ c.in-Some.node ∷ into_iter_items c.next.new.self = c.in-Some.ensures.steps.0 in
    record {
      adds = adds_more c.args.self.now at.self c.add_node.new.self at.yielded c.in-Some.node at.invariant.adds c.add_node.ensures;
      ends = ends_kept at.self c.in-Some.node c.add_node.new.self c.add_node.ensures ∙ at.invariant.ends;
      room = room_left at.self c.in-Some.node (into_iter_items c.next.new.self) (into_iter_items at.node-iterator) c.add_node.new.self c.add_node.ensures steps at.invariant.room;
      rest = append_assoc at.yielded (c.in-Some.node ∷ []) _ ∙ rw (← steps) at.invariant.rest;
      left = let was = at.invariant.left in
          let gone = c.in-Some.ensures.steps.1 in
          let short = ap length steps in
          omega arith;
    }
