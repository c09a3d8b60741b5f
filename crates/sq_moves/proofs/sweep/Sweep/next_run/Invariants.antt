use Rattle.std.proofs.Common.{List, ◌≤◌}
use Rattle.sq_moves.specs.declared.recon.Range.{Range}
use Rattle.sq_moves.specs.Sweep.{HasAhead, left}
use Rattle.sq_moves.proofs.sweep.Sweep.next_run.Given as goal

abbrev pub invariant-loop-piece : goal.invariant-loop-piece
invariant-loop-piece l = record {
  has : (runs : List Range) → HasAhead l.initial.self runs → HasAhead l.self runs;
  fewer : left l.self ≤ left l.initial.self;
}

abbrev pub decreases-loop-piece : goal.decreases-loop-piece
decreases-loop-piece l = left l.self
