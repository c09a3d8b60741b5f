use Rattle.std.proofs.Common.{◌<◌}
use Rattle.sq_shared.specs.Seat.{IsSameSeat}
use Rattle.sq_shared.specs.Walks.{WalkedTo}
use Rattle.sq_shared.proofs.tree.StatusTree.claim_leaf.Given as goal

abbrev pub invariant-loop-levels : goal.invariant-loop-levels
invariant-loop-levels l =
    record {
      few : l.leaf < 32;
      seat : IsSameSeat l.fn.seat l.seat;
      walk : WalkedTo l.leaf l.levels l.fn.seat.view l.seat.view;
    }
