use Rattle.std.proofs.Common.{◌≡◌, ℕ, ◌<◌, Some}
use Rattle.std.specs.Prelude.{slice_get}
use Rattle.sq_node.specs.Looks.{SeatsLooked, HasNoneToComplete}
use Rattle.sq_shared.specs.Seats.{AreSeatsOf}
use Rattle.sq_node.proofs.node.trees.complete_first.Given as goal

-- no node so far was to be completed
abbrev pub invariant-loop-at : goal.invariant-loop-at
invariant-loop-at l = record {
  of : AreSeatsOf l.trees l.seats.items;
  same : l.nodes.items ≡ l.initial.nodes.items;
  looked : SeatsLooked l.initial.seats.items l.seats.items;
  none : (place seg n : ℕ) → place < l.at → slice_get l.initial.nodes.items place ≡ Some (seg, n) → HasNoneToComplete l.initial.seats.items l.seats.items seg n;
}
