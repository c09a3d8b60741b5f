use Rattle.std.proofs.Common.{◌≡◌, take}
use Rattle.sq_moves.specs.ReconValue.{segments_of}
use Rattle.sq_moves.proofs.cut.segments.Given as goal

abbrev pub invariant-loop-range : goal.invariant-loop-range
invariant-loop-range l = l.segments.items ≡ segments_of l.width (take l.range-index l.ranges)
