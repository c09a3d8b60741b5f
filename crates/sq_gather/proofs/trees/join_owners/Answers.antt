use Rattle.std.proofs.Common.{◌≡◌, [], ◌∷◌, List, length, map, sym, ap, ◌∙◌, subst, append_assoc, arith, Vec, Global}
use Rattle.std.specs.Prelude.{slice_get}
use Rattle.std.proofs.lemmas.List.{map-append}
use Rattle.sq_shared.specs.declared.tree.TreeSeat.{TreeSeat}
use Rattle.sq_node_model.proofs.Lists.{at_map}
use Rattle.sq_gather.proofs.Lists.{stands_after}
use Rattle.std.specs.Vec.Iter.{into_iter_items}
use Rattle.sq_shared.specs.Seat.{SeatValue}
use Rattle.sq_gather.specs.Trees.{AreJoined}
use Rattle.sq_gather.proofs.Joining.{joined_more}
use Rattle.sq_gather.proofs.trees.join_owners.Goals as goal

abbrev seats_of : Vec TreeSeat Global → List SeatValue
seats_of owner = owner.items

pub join_seats-requires-clause-seats : goal.join_seats-requires-clause-seats
join_seats-requires-clause-seats c = c.requires.owners (length c.loop-seats.yielded) c.in-Some.seats.items
    (at_map seats_of c.args.owners.items (length c.loop-seats.yielded) c.in-Some.seats
    (ap (λ (all : List (Vec TreeSeat Global)). slice_get all (length c.loop-seats.yielded)) (sym (c.loop-seats.invariant.rest ∙ c.into_iter-seats-iterator.ensures.into_iter_gives.0))
    ∙ stands_after c.loop-seats.yielded c.in-Some.seats (into_iter_items c.next.new.self) (into_iter_items c.loop-seats.seats-iterator) c.in-Some.ensures.steps.0))

pub loop-seats-preserved : goal.loop-seats-preserved
loop-seats-preserved c =
    let at = c.loop-seats in
    let seats = c.in-Some.seats in
    let steps : into_iter_items at.seats-iterator ≡ seats ∷ into_iter_items c.next.new.self = c.in-Some.ensures.steps.0 in
    record {
      of = c.join_seats.ensures.first;
      first = c.join_seats.ensures.opened;
      joined = subst (λ (owners : List (List SeatValue)). AreJoined c.args.first.now.items owners c.join_seats.new.first.items) (sym (map-append seats_of at.yielded (seats ∷ [])))
          (joined_more c.args.first.now.items at.first.items c.join_seats.new.first.items (map seats_of at.yielded) seats.items at.invariant.joined c.join_seats.ensures.joined);
      rest = append_assoc at.yielded (seats ∷ []) _ ∙ rw (← steps) at.invariant.rest;
      left = let was = at.invariant.left in
          let gone = c.in-Some.ensures.steps.1 in
          let short = ap length steps in
          omega arith;
    }
