use Rattle.std.proofs.Common.{ℕ, List, map, Vec, Global, sym, subst}
use Rattle.std.proofs.lemmas.List.{length-map}
use Rattle.sq_shared.specs.declared.tree.TreeSeat.{TreeSeat}
use Rattle.sq_shared.specs.Seat.{SeatValue}
use Rattle.sq_gather.specs.Trees.{AwaitOwners}
use Rattle.sq_gather.proofs.Joined.{joined_whole, all_closed}
use Rattle.sq_gather.proofs.trees.close_trees.Goals as goal

abbrev seats_of : Vec TreeSeat Global → List SeatValue
seats_of owner = owner.items

pub close_each-requires-clause-whole : goal.close_each-requires-clause-whole
close_each-requires-clause-whole c =
    joined_whole c.args.first.items (map seats_of c.args.owners.items) c.join_owners.new.first.items c.join_owners.ensures.joined
    (subst (λ (count : ℕ). AwaitOwners count c.args.first.items) (sym (length-map c.args.owners.items seats_of)) c.requires.given)

pub returns : goal.returns
returns c = all_closed c.args.first.items (map seats_of c.args.owners.items) c.join_owners.new.first.items c.close_each.result.items c.join_owners.ensures.joined c.close_each.ensures
