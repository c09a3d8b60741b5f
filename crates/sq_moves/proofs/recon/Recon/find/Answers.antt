use Rattle.std.proofs.Common.{◌≡◌, ◌<◌, ◌≤◌, ◌∙◌, List, length, get_or, Some, ap, subst}
use Rattle.std.specs.Prelude.{slice_get}
use Rattle.sq_moves.specs.declared.recon.Range.{Range}
use Rattle.sq_moves.specs.ReconValue.{ReconValue, are_in_key_order}
use Rattle.sq_moves.proofs.Search.{found_past, found_behind, found_here, found_within, segment_read, IsPoint}
use Rattle.sq_moves.proofs.Extents.{leaf_below}
use Rattle.sq_moves.proofs.Segments.{segment_stands, segments_rising, width_bounds}
use Rattle.sq_moves.proofs.recon.Recon.find.Goals as goal
use Rattle.sq_moves.proofs.recon.Recon.find.Goals.{After-count_up_to-at, In_ok-segment}

abbrev searched : After-count_up_to-at → ReconValue
searched c = record { width = c.self.inside.width; ranges = c.self.inside.ranges.items; segments = c.self.inside.segments.items; auto = c.self.inside.auto }

-- where the search comes out
point : (c : After-count_up_to-at) → IsPoint c.number-key.result c.count_up_to-at.result c.self.inside.segments.items
point c = subst (IsPoint c.number-key.result c.count_up_to-at.result) c.as_slice.ensures.value c.count_up_to-at.ensures.point

-- the segment at this place
there : (c : In_ok-segment) → let segments = c.self.inside.segments.items in let i = c.count_up_to-at.result in let segment = c.in_ok-segment.segment.now in (i < length segments) × (segment ≡ get_or segments i segment) × (slice_get segments i ≡ Some segment)
there c =
    let segment = c.in_ok-segment.segment.now in
    let read = c.in_ok-segment.ensures.lookup.3 in
    segment_read c.self.inside.segments.items c.as_slice-2.result.now c.count_up_to-at.result segment c.as_slice-2.ensures.value read.0 (read.1 segment)

pub count_up_to-at-requires : goal.count_up_to-at-requires
count_up_to-at-requires c =
    let recon : ReconValue = record { width = c.self.inside.width; ranges = c.self.inside.ranges.items; segments = c.self.inside.segments.items; auto = c.self.inside.auto } in
    ap (are_in_key_order 0) c.as_slice.ensures.value ∙ segments_rising recon c.self.invariant.recon

pub returns-in_err-segment : goal.returns-in_err-segment
returns-in_err-segment c =
    let at = (goal.at.returns-in_err-segment c).After-count_up_to-at in
    let past : length (searched at).segments ≤ c.count_up_to-at.result = subst (λ (xs : List Range). length xs ≤ c.count_up_to-at.result) c.as_slice-2.ensures.value c.in_err-segment.ensures.lookup.3 in
    c.from_residual.ensures ∙ rw (← c.self.view_is, ← c.number-key.ensures.number) (found_past (searched at) c.self.invariant.recon c.number-key.result c.count_up_to-at.result (point at) past)

pub returns-then-key-segment : goal.returns-then-key-segment
returns-then-key-segment c =
    let at = (goal.at.returns-then-key-segment c).After-count_up_to-at in
    let stands = there (goal.at.returns-then-key-segment c).In_ok-segment in
    rw (← c.self.view_is, ← c.number-key.ensures.number) (found_behind (searched at) c.self.invariant.recon c.number-key.result c.count_up_to-at.result (point at) c.in_ok-segment.segment.now stands.0 stands.1 c.if-key-segment.true)

pub returns : goal.returns
returns c =
    let at = (goal.at.returns c).After-count_up_to-at in
    let stands = there (goal.at.returns c).In_ok-segment in
    rw (← c.self.view_is, ← c.number-key.ensures.number, c.in-Some.ensures.1, c.in-Some-new.ensures.1) (found_here (searched at) c.self.invariant.recon c.number-key.result c.count_up_to-at.result (point at) c.in_ok-segment.segment.now stands.0 stands.1 c.if-key-segment.false)

pub unreachable-requires-in_default-new : goal.unreachable-requires-in_default-new
unreachable-requires-in_default-new c =
    let at = (goal.at.unreachable-requires-in_default-new c).After-count_up_to-at in
    let segment = c.in_ok-segment.segment.now in
    let stands = there (goal.at.unreachable-requires-in_default-new c).In_ok-segment in
    let held = found_within (searched at) c.self.invariant.recon c.number-key.result c.count_up_to-at.result (point at) segment stands.0 stands.1 c.if-key-segment.false in
    let whole = segment_stands (searched at) c.self.invariant.recon c.count_up_to-at.result segment stands.2 in
    c.in_default-new.ensures (leaf_below c.self.inside.width segment (width_bounds c.self.inside.width c.self.invariant.recon.leaf).0 c.number-key.result held whole.is.short)
