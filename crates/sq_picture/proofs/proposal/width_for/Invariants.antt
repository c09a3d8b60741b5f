use Rattle.std.proofs.Common.{◌-◌, ◌≤◌}
use Rattle.sq_moves.specs.declared.recon.TheConstants.{MAX_WIDTH}
use Rattle.sq_picture.specs.Proposal.{IsWidthFor}
use Rattle.sq_picture.proofs.proposal.width_for.Given as goal

abbrev pub invariant-loop-width : goal.invariant-loop-width
invariant-loop-width l = record {
  some : 1 ≤ l.width;
  most : l.width ≤ MAX_WIDTH;
  width : IsWidthFor l.opening l.width;
}

abbrev pub decreases-loop-width : goal.decreases-loop-width
decreases-loop-width l = MAX_WIDTH - l.width
