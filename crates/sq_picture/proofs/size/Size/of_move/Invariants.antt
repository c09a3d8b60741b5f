use Rattle.std.proofs.Common.{◌≡◌, map, take}
use Rattle.sq_picture.specs.Sizes.{segment_size, sum_of_sizes, size_in_64_bits}
use Rattle.sq_picture.proofs.size.Size.of_move.Given as goal

-- it is the size of the segments so far
abbrev pub invariant-loop-segment : goal.invariant-loop-segment
invariant-loop-segment l = l.size ≡ size_in_64_bits (sum_of_sizes (map (segment_size l.opening) (take l.segment-index l.segments)))
