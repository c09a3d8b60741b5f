-- The segments of a part of a move, as they are gone over.
use Rattle.std.proofs.Common.{List, map}
use Rattle.std.specs.Prelude.{filter}
use Rattle.sq_moves.specs.declared.recon.Range.{Range}
use Rattle.sq_moves.specs.OpeningValue.{OpeningValue}
use Rattle.sq_picture.specs.Sizes.{segment_size, sum_of_sizes, is_in_part}
use Rattle.sq_picture.specs.declared.size.Size.{Size}
use Rattle.sq_picture.specs.declared.size.MovePart.{MovePart}

-- the size of those of these segments that belong to a part
abbrev pub size_among : OpeningValue → MovePart → List Range → Size
size_among o part segments = sum_of_sizes (map (segment_size o) (filter (is_in_part o.recon part) segments))
