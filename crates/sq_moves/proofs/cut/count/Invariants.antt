use Rattle.std.proofs.Common.{◌≡◌, ◌++◌, List, length}
use Rattle.sq_moves.specs.declared.recon.Range.{Range}
use Rattle.sq_moves.specs.ReconValue.{segments_of}
use Rattle.sq_moves.specs.Moves.{moves_of}
use Rattle.sq_moves.specs.Sweep.{HasAhead, left}
use Rattle.sq_moves.proofs.cut.count.Given as goal

abbrev pub invariant-loop-run : goal.invariant-loop-run
invariant-loop-run l =
    (done : List Range) × (rest : List Range) × (moves_of l.old l.new ≡ done ++ rest) × HasAhead l.sweep rest × (l.count ≡ length (segments_of l.width done))

abbrev pub decreases-loop-run : goal.decreases-loop-run
decreases-loop-run l = left l.sweep
