-- The segments that move into a partition in a stage, and what the leader requires of them.
use Rattle.std.specs.Prelude.{ℕ, Bool, false, ◌==◌, ◌&&◌, ◌||◌, not, nat_lt, List, length, slice_index_or}
use Rattle.std.specs.List.{list_any, list_all, range_with_len}
use Rattle.sq_moves.specs.declared.recon.Range.{Range}
use Rattle.sq_moves.specs.ReconValue.{ReconValue, stage_in, moves_into}
use Rattle.sq_leader.specs.LeaderValue.{StageValue}
use Rattle.sq_leader.specs.Marks.{is_marked, marks_after}

-- the segment with this number is marked as complete; false if it has no entry
abbrev pub is_marked_complete : List Bool → ℕ → Bool
is_marked_complete whole seg = slice_index_or whole seg false

-- each segment that moves into the partition in this stage is marked as complete
abbrev pub all_marked_complete : ReconValue → ℕ → List Bool → ℕ → Bool
all_marked_complete recon stage whole part =
    list_all (λ seg. not (moves_into recon stage part seg) || is_marked_complete whole seg) (range_with_len 0 (length recon.segments))

-- the segment moves in another stage, or the partition that it moves into has reported
abbrev pub is_heard : StageValue → Range → Bool
is_heard at segment = not (stage_in at.recon segment == at.stage) || is_marked at.reported segment.dst

-- each partition that a segment of the running stage moves into has reported
abbrev pub have_reported : StageValue → Bool
have_reported at = list_all (is_heard at) at.recon.segments

-- the stage with this number once these of this many partitions have reported
abbrev pub stage_after : ReconValue → ℕ → ℕ → List ℕ → StageValue
stage_after recon stage parts told = record { reported = marks_after parts told; stage = stage; recon = recon }

-- the segment moves in another stage, or the partition that it moves into is among these that
-- reported, of this many
abbrev pub counts_as_reported : ReconValue → ℕ → ℕ → List ℕ → Range → Bool
counts_as_reported recon stage parts told segment =
    not (stage_in recon segment == stage) || (list_any (λ one. one == segment.dst) told && nat_lt segment.dst parts)

-- the partition has reported, or no segment moves into it in the running stage
abbrev pub owes_no_report : StageValue → ℕ → Bool
owes_no_report at part =
    is_marked at.reported part
    || not (list_any (moves_into at.recon at.stage part) (range_with_len 0 (length at.recon.segments)))
