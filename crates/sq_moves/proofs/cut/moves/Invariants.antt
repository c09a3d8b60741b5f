use Rattle.std.proofs.Common.{◌≡◌, ◌++◌, List}
use Rattle.sq_moves.specs.declared.recon.Range.{Range}
use Rattle.sq_moves.specs.Moves.{moves_of}
use Rattle.sq_moves.specs.Sweep.{HasAhead, left}
use Rattle.sq_moves.proofs.cut.moves.Given as goal

abbrev pub invariant-loop-run : goal.invariant-loop-run
invariant-loop-run l = (rest : List Range) × (moves_of l.old l.new ≡ l.moves.items ++ rest) × HasAhead l.sweep rest

abbrev pub decreases-loop-run : goal.decreases-loop-run
decreases-loop-run l = left l.sweep
