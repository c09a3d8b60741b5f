-- The JSON of what moves: how deep it nests, and that it has no float.
use Rattle.std.proofs.Common.{◌≡◌, ◌≤◌, false, List, [], ◌∷◌, map, refl, arith}
use Rattle.serde_json.specs.Data.{Data, depth, items_depth}
use Rattle.serde_json.specs.Read.{max_depth}
use Rattle.serde_json.specs.View.{items_of}
use Rattle.serde_json.specs.Written.{has_float, items_have_float}
use Rattle.sq_moves.specs.declared.recon.Range.{Range}
use Rattle.sq_moves.specs.ReconValue.{ReconValue}
use Rattle.sq_picture.specs.Json.{moved_range_data, segment_data, moves_data}

are_flat : (data_of : Range → Data) → ((range : Range) → depth (data_of range) ≡ 1) → (ranges : List Range) → items_depth (items_of (map data_of ranges)) ≤ 1
are_flat data_of flat [] = omega arith
are_flat data_of flat (range ∷ ranges) = let one = flat range in let rest = are_flat data_of flat ranges in omega arith

-- it nests three deep
pub moves_are_flat : (recon : ReconValue) → depth (moves_data recon) ≤ max_depth
moves_are_flat recon =
    let ranges = are_flat moved_range_data (λ range. refl) recon.ranges in
    let segments = are_flat (segment_data recon) (λ range. refl) recon.segments in
    omega arith

are_whole : (data_of : Range → Data) → ((range : Range) → has_float (data_of range) ≡ false) → (ranges : List Range) → items_have_float (items_of (map data_of ranges)) ≡ false
are_whole data_of whole [] = refl
are_whole data_of whole (range ∷ ranges) = rw (whole range) (are_whole data_of whole ranges)

-- its numbers are whole
pub moves_are_whole : (recon : ReconValue) → has_float (moves_data recon) ≡ false
moves_are_whole recon = rw (are_whole moved_range_data (λ range. refl) recon.ranges, are_whole (segment_data recon) (λ range. refl) recon.segments) refl
