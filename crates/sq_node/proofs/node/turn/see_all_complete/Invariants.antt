use Rattle.std.proofs.Common.{◌≡◌, ℕ, ◌<◌, true, Some, length}
use Rattle.std.specs.Prelude.{slice_get}
use Rattle.sq_moves.specs.declared.recon.Range.{Range}
use Rattle.sq_shared.specs.Seats.{AreSeatsOf}
use Rattle.sq_node.specs.Settled.{AreSeen}
use Rattle.sq_node.specs.Looks.{SeatsLooked}
use Rattle.sq_node.specs.Idle.{takes_part}
use Rattle.sq_node.proofs.node.turn.see_all_complete.Given as goal

-- so far there were only looks, and the flag of each segment that takes part is set
abbrev pub invariant-loop-at : goal.invariant-loop-at
invariant-loop-at l = record {
  of : AreSeatsOf l.trees l.seats.items;
  looked : SeatsLooked l.initial.seats.items l.seats.items;
  flags : length l.complete.items ≡ length l.initial.complete.items;
  seen : AreSeen l.initial.seats.items l.initial.complete.items → AreSeen l.seats.items l.complete.items;
  all : (seg : ℕ) (segment : Range) → seg < l.at → slice_get l.fabric.recon.segments seg ≡ Some segment → takes_part l.fabric.recon l.fabric.stage l.part segment ≡ true → slice_get l.complete.items seg ≡ Some true;
}
