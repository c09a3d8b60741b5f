use Rattle.std.proofs.Common.{◌≡◌, take}
use Rattle.sq_picture.specs.Sizes.{size_in_64_bits}
use Rattle.sq_picture.proofs.Parts.{size_among}
use Rattle.sq_picture.proofs.size.Size.of_part.Given as goal

-- it is the size of the part's segments so far
abbrev pub invariant-loop-segment : goal.invariant-loop-segment
invariant-loop-segment l = l.size ≡ size_in_64_bits (size_among l.opening l.part (take l.segment-index l.segments))
