-- A range that is cut has a segment.
use Rattle.std.proofs.Common.{◌≡◌, ℕ, ◌+◌, ◌-◌, ◌<◌, ◌≤◌, List, length, Some, refl, sym, subst, arith}
use Rattle.std.specs.Prelude.{slice_get, Contains}
use Rattle.std.proofs.lemmas.Nat.{le-div}
use Rattle.std.proofs.lemmas.List.FromFn.{length-map-range_with_len, get_or-map-range_with_len}
use Rattle.sq_schema.specs.declared.root.TheConstants.{ROOT_END}
use Rattle.sq_moves.specs.declared.recon.Range.{Range}
use Rattle.sq_moves.specs.ReconValue.{ReconValue, IsRecon, segment_width, segment_at, segment_count, segments_in}
use Rattle.sq_moves.proofs.Cuts.{Moves, row_from_rising, segment_width_some}
use Rattle.sq_moves.proofs.Rows.{row_at}
use Rattle.sq_moves.proofs.Segments.{width_bounds}
use Rattle.sq_model.proofs.Lists.{Contains-slice_get}
use Rattle.sq_node_model.proofs.Lists.{Contains-flat_map}

-- a range that has keys has a first segment
has_first : (width : ℕ) (range : Range) → 1 ≤ width → range.lo < range.hi → Contains (segments_in width range) (segment_at width range 0)
has_first width range wide some =
    let s = segment_width width in
    let positive : 0 < s = segment_width_some width wide in
    let count = segment_count width range in
    let inside : 1 ≤ count = le-div 1 (range.hi - range.lo + s - 1) s positive (omega (arith, some, positive)) in
    let long : length (segments_in width range) ≡ count = length-map-range_with_len (segment_at width range) 0 count in
    (0, omega (arith, inside, long), get_or-map-range_with_len (segment_at width range) 0 count 0 0 (segment_at width range 0) (omega (arith, inside)) (omega arith))

-- each range has a segment, with its ends
pub range_segment : (recon : ReconValue) → IsRecon recon → (i : ℕ) (range : Range) → slice_get recon.ranges i ≡ Some range → (segment : Range) × Contains recon.segments segment × (segment.src ≡ range.src) × (segment.dst ≡ range.dst)
range_segment recon is i range there =
    let some = (row_at Moves 0 ROOT_END recon.ranges i range (row_from_rising 0 recon.ranges (omega arith) is.rising) there).some in
    let first = has_first recon.width range (width_bounds recon.width is.leaf).0 some in
    let among = Contains-flat_map (segments_in recon.width) recon.ranges range (segment_at recon.width range 0) (Contains-slice_get recon.ranges i range there) first in
    (segment_at recon.width range 0, subst (λ (segments : List Range). Contains segments (segment_at recon.width range 0)) (sym is.cut) among, refl, refl)
