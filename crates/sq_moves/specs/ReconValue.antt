-- Reconfiguration ranges, segments, and the places of their nodes and leaves.
use Rattle.std.specs.Prelude.{◌≡◌, ◌↔◌, ℕ, Bool, true, ◌+◌, ◌-◌, ◌*◌, ◌/◌, ◌==◌, ◌&&◌, ◌≤◌, false, not, nat_lt, nat_le, min, if◌then◌else◌, max, unwrap_or, filter, List, [], ◌∷◌, length, map, position, slice_get, Option, None, Some, option_map, option_and_then, Contains}
use Rattle.std.specs.List.{list_any, flat_map, range_with_len}
use Rattle.std.specs.List.Sorted.{IsStrictlySortedBy}
use Rattle.std.specs.declared.cmp.Ordering.{Ordering}
use Rattle.std.specs.Ordering.{nat_cmp, ordering_then}
use Rattle.sq_schema.specs.declared.root.TheConstants.{ROOT_END}
use Rattle.sq_moves.specs.declared.node.TheConstants.{LEAVES}
use Rattle.sq_moves.specs.Node.{span, first_leaf}
use Rattle.sq_moves.specs.declared.recon.TheConstants.{MAX_WIDTH}
use Rattle.sq_moves.specs.declared.recon.Range.{Range}
use Rattle.sq_moves.specs.declared.recon.Extent.{Extent}
use Rattle.sq_moves.specs.declared.recon.Link.{Link}
use Rattle.sq_moves.specs.declared.segment.TheConstants.{SEGMENT_LIMIT}

pub record ReconValue : Type 0 where
  pub width : ℕ
  pub ranges : List Range
  pub segments : List Range
  pub auto : Bool

abbrev pub has_key : Range → ℕ → Bool
has_key range key = nat_le range.lo key && nat_lt key range.hi

-- the most keys of a segment whose leaves have this width
abbrev pub segment_width : ℕ → ℕ
segment_width width = LEAVES * width

-- the segment of this number within a range
abbrev pub segment_at : ℕ → Range → ℕ → Range
segment_at width range i =
    record {
      lo = range.lo + i * segment_width width;
      hi = min range.hi (range.lo + (i + 1) * segment_width width);
      src = range.src;
      dst = range.dst;
    }

abbrev pub segment_count : ℕ → Range → ℕ
segment_count width range = (range.hi - range.lo + segment_width width - 1) / segment_width width

-- a range, cut from its low end
abbrev pub segments_in : ℕ → Range → List Range
segments_in width range = map (segment_at width range) (range_with_len 0 (segment_count width range))

abbrev pub segments_of : ℕ → List Range → List Range
segments_of width ranges = flat_map (segments_in width) ranges

-- a leaf may be this many keys wide
abbrev pub is_width : ℕ → Bool
is_width width = nat_le 1 width && nat_le width MAX_WIDTH

-- the move with these ranges and segments
abbrev pub recon_with : ℕ → List Range → List Range → Bool → ReconValue
recon_with width ranges segments auto = record { width = width; ranges = ranges; segments = segments; auto = auto }

-- nothing moves
abbrev pub no_moves : ReconValue
no_moves = record { width = 1; ranges = []; segments = []; auto = false }

-- ranges in key order from this key on, none of them empty, each from one partition to another
abbrev pub are_in_key_order : ℕ → List Range → Bool
are_in_key_order lo [] = true
are_in_key_order lo (range ∷ ranges) =
    nat_le lo range.lo
    && (nat_lt range.lo range.hi && (nat_le range.hi ROOT_END && (not (range.src == range.dst) && are_in_key_order range.hi ranges)))

-- the invariant of each reconfiguration, whatever its plans
pub record IsRecon (recon : ReconValue) : Type 0 where
  pub leaf : is_width recon.width ≡ true
  pub rising : are_in_key_order 0 recon.ranges ≡ true
  pub cut : recon.segments ≡ segments_of recon.width recon.ranges
  pub few : length recon.segments ≤ SEGMENT_LIMIT

-- the number of the segment that holds a key
abbrev pub segment_of : List Range → ℕ → Option ℕ
segment_of segments key = position (λ segment. has_key segment key) segments

-- the leaf of a segment that holds a key of it
abbrev pub leaf_of : ℕ → Range → ℕ → ℕ
leaf_of width segment key = (key - segment.lo) / width

-- the first key of a leaf, or the segment's end if the leaf is past it
abbrev pub leaf_start : ℕ → Range → ℕ → ℕ
leaf_start width segment leaf = min segment.hi (segment.lo + leaf * width)

-- the keys of a node: from its first leaf's low end to its last leaf's high end
abbrev pub extent : ℕ → Range → ℕ → Extent
extent width segment n =
    record { lo = leaf_start width segment (first_leaf n); hi = leaf_start width segment (first_leaf n + span n) }

-- the segment and the leaf that hold a key; none if no segment holds it
abbrev pub leaf_at : ReconValue → ℕ → Option (ℕ × ℕ)
leaf_at recon key =
    option_and_then
    (λ i. option_map (λ segment. (i, leaf_of recon.width segment key)) (slice_get recon.segments i))
    (segment_of recon.segments key)

-- the keys of a node of a segment; none if there is no such segment
abbrev pub extent_at : ReconValue → ℕ → ℕ → Option Extent
extent_at recon seg n = option_map (λ segment. extent recon.width segment n) (slice_get recon.segments seg)

abbrev pub range_link : Range → Link
range_link range = record { src = range.src; dst = range.dst }

-- some range goes from one partition to the other
abbrev pub is_link : List Range → ℕ → ℕ → Bool
is_link ranges src dst = list_any (λ range. (range.src == src) && (range.dst == dst)) ranges

-- the partitions that this one sends keys to, each once, in the order of their first ranges
abbrev pub destinations : ℕ → List Range → List ℕ
destinations src [] = []
destinations src (range ∷ ranges) =
    if range.src == src then range.dst ∷ filter (λ dst. not (dst == range.dst)) (destinations src ranges) else destinations src ranges

-- the place of a partition among those that another sends keys to; 0 if it isn't one of them
abbrev pub place_on : List Range → ℕ → ℕ → ℕ
place_on ranges src dst = unwrap_or (position (λ other. other == dst) (destinations src ranges)) 0

-- the place of the partition that a range goes to
abbrev pub place_of : List Range → Range → ℕ
place_of ranges range = place_on ranges range.src range.dst

-- the stage in which keys go from one partition to the other, if the move has stages
abbrev pub stage_on : ReconValue → ℕ → ℕ → ℕ
stage_on recon src dst = if recon.auto then place_on recon.ranges src dst else 0

abbrev pub stage_in : ReconValue → Range → ℕ
stage_in recon range = stage_on recon range.src range.dst

-- the number of stages: one more than the highest stage of a range, and one if nothing moves
abbrev pub stages_in : ReconValue → List Range → ℕ
stages_in recon [] = 1
stages_in recon (range ∷ ranges) = max (stage_in recon range + 1) (stages_in recon ranges)

abbrev pub stages : ReconValue → ℕ
stages recon = stages_in recon recon.ranges

abbrev pub stage_found : ReconValue → Option Range → ℕ
stage_found recon None = 0
stage_found recon (Some segment) = stage_in recon segment

-- the stage of the segment of this number
abbrev pub stage_at : ReconValue → ℕ → ℕ
stage_at recon seg = stage_found recon (slice_get recon.segments seg)

-- the segment, if it is of this stage
abbrev pub of_stage : ReconValue → ℕ → Option Range → Option Range
of_stage recon i None = None
of_stage recon i (Some segment) = if stage_in recon segment == i then Some segment else None

-- the segment moves into the partition; false without a segment
abbrev pub goes_into : Option Range → ℕ → Bool
goes_into None part = false
goes_into (Some segment) part = segment.dst == part

-- the segment of this number moves into the partition in this stage
abbrev pub moves_into : ReconValue → ℕ → ℕ → ℕ → Bool
moves_into recon stage part seg = goes_into (of_stage recon stage (slice_get recon.segments seg)) part

-- links in their order: by source, and then by destination
abbrev pub link_cmp : Link → Link → Ordering
link_cmp one other = ordering_then (nat_cmp one.src other.src) (nat_cmp one.dst other.dst)

-- the links of these ranges, strictly rising
pub record AreLinks (ranges : List Range) (links : List Link) : Type 0 where
  pub rising : IsStrictlySortedBy link_cmp links
  pub all : (link : Link) → Contains links link ↔ (is_link ranges link.src link.dst ≡ true)

-- the invariant of each reconfiguration, its links, and for each segment the place of the partition
-- that it goes to
pub record HasLists (move : ReconValue) (pairs : List Link) (numbers : List ℕ) : Type 0 where
  pub recon : IsRecon move
  pub links : AreLinks move.ranges pairs
  pub places : numbers ≡ map (place_of move.ranges) move.segments
