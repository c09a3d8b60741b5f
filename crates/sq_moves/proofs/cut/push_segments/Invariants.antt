use Rattle.std.proofs.Common.{◌≡◌, ◌++◌, map}
use Rattle.std.specs.List.{range_with_len}
use Rattle.sq_moves.specs.ReconValue.{segment_at}
use Rattle.sq_moves.proofs.cut.push_segments.Given as goal

abbrev pub invariant-loop-i : goal.invariant-loop-i
invariant-loop-i l = l.segments.items ≡ l.initial.segments.items ++ map (segment_at l.width l.range) (range_with_len 0 l.i)
