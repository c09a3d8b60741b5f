-- What is read from a gathered stage.
use Rattle.std.specs.Prelude.{◌≡◌, ℕ, ◌<◌, ◌||◌, Bool, nat_lt, List, [], length, slice_index_or, count_by}
use Rattle.std.specs.List.{range_with_len}
use Rattle.sq_moves.specs.declared.status.Status.{Status}
use Rattle.sq_moves.specs.Reading.{is_complete_reading}
use Rattle.sq_moves.specs.Status.{reading}
use Rattle.sq_moves.specs.Tree.{status_at}
use Rattle.sq_moves.specs.declared.segment.TheConstants.{SEGMENT_LIMIT}
use Rattle.sq_moves.specs.ReconValue.{ReconValue, stage_at}
use Rattle.sq_leader.specs.Segments.{is_marked_complete}

-- segment `seg` is complete: its node 1 reads complete
abbrev pub is_moved : List (List Status) → ℕ → Bool
is_moved statuses seg = is_complete_reading (reading (status_at (slice_index_or statuses seg [])) 1)

-- exactly the complete segments are marked
abbrev pub MarksMoved : List (List Status) → List Bool → Type 0
MarksMoved statuses moved = (seg : ℕ) → seg < SEGMENT_LIMIT → is_marked_complete moved seg ≡ is_moved statuses seg

-- how many segments moved in a stage before `stage`, or are marked
abbrev pub marked_count : ReconValue → ℕ → List Bool → ℕ
marked_count recon stage moved =
    count_by (λ seg. nat_lt (stage_at recon seg) stage || is_marked_complete moved seg) (range_with_len 0 (length recon.segments))
