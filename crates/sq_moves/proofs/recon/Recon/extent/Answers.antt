use Rattle.std.proofs.Common.{◌≡◌, ◌+◌, ◌∙◌, Some, ap, arith}
use Rattle.std.specs.Prelude.{slice_get}
use Rattle.sq_schema.specs.declared.root.TheConstants.{ROOT_END}
use Rattle.sq_moves.specs.ReconValue.{ReconValue, leaf_start}
use Rattle.sq_moves.proofs.Cuts.{IsSegment}
use Rattle.sq_moves.proofs.Rows.{Stands}
use Rattle.sq_moves.proofs.Search.{segment_read, extent_found}
use Rattle.sq_moves.proofs.Segments.{segment_stands}
use Rattle.sq_moves.proofs.recon.Recon.extent.Goals as goal
use Rattle.sq_moves.proofs.recon.Recon.extent.Goals.{In_ok-segment}

abbrev searched : In_ok-segment → ReconValue
searched c = record { width = c.self.inside.width; ranges = c.self.inside.ranges.items; segments = c.self.inside.segments.items; auto = c.self.inside.auto }

-- the segment at this place
there : (c : In_ok-segment) → slice_get c.self.inside.segments.items c.index.result ≡ Some c.in_ok-segment.segment.now
there c =
    let segment = c.in_ok-segment.segment.now in
    let read = c.in_ok-segment.ensures.lookup.3 in
    (segment_read c.self.inside.segments.items c.as_slice.result.now c.index.result segment c.as_slice.ensures.value read.0 (read.1 segment)).2

stands : (c : In_ok-segment) → Stands (IsSegment c.self.inside.width) 0 ROOT_END c.in_ok-segment.segment.now
stands c = segment_stands (searched c) c.self.invariant.recon c.index.result c.in_ok-segment.segment.now (there c)

pub leaf_start-requires-clause-within : goal.leaf_start-requires-clause-within
leaf_start-requires-clause-within c = (stands (goal.at.leaf_start-requires-clause-within c).In_ok-segment).high

pub leaf_start-requires-clause-some : goal.leaf_start-requires-clause-some
leaf_start-requires-clause-some c = omega (arith, (stands (goal.at.leaf_start-requires-clause-some c).In_ok-segment).some)

pub leaf_start-requires-2-clause-within : goal.leaf_start-requires-2-clause-within
leaf_start-requires-2-clause-within c = (stands (goal.at.leaf_start-requires-2-clause-within c).In_ok-segment).high

pub leaf_start-requires-2-clause-some : goal.leaf_start-requires-2-clause-some
leaf_start-requires-2-clause-some c = omega (arith, (stands (goal.at.leaf_start-requires-2-clause-some c).In_ok-segment).some)

pub returns : goal.returns
returns c =
    let at = (goal.at.returns c).In_ok-segment in
    let segment = c.in_ok-segment.segment.now in
    let first = c.number-first.ensures.number ∙ c.first_leaf.ensures.first in
    let lo = c.leaf_start.ensures ∙ ap (leaf_start (searched at).width segment) first in
    let hi = c.leaf_start-2.ensures ∙ ap (leaf_start (searched at).width segment) (λ i. first i + c.span.ensures i) in
    let found = extent_found (searched at) c.index.result c.args.node segment (there at) in
    rw (← c.self.view_is, ← c.index.ensures.place) ((λ i. Some (record { lo = lo i; hi = hi i })) ∙ found)
