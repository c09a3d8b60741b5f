use Rattle.std.proofs.Common.{◌≡◌, ℕ, ◌<◌, [], length}
use Rattle.std.specs.Prelude.{slice_index_or}
use Rattle.sq_leader.specs.Segments.{is_marked_complete}
use Rattle.sq_moves.specs.declared.segment.TheConstants.{SEGMENT_LIMIT}
use Rattle.sq_moves.specs.Status.{reading}
use Rattle.sq_moves.specs.Tree.{status_at}
use Rattle.sq_moves.specs.Reading.{is_complete_reading}
use Rattle.sq_world.proofs.state.leader.complete_by_trees.Given as goal

-- each segment so far has its entry
abbrev pub invariant-loop-seg : goal.invariant-loop-seg
invariant-loop-seg l = record {
  room : length l.whole ≡ SEGMENT_LIMIT;
  each : (seg : ℕ) → seg < l.seg → is_marked_complete l.whole seg ≡ is_complete_reading (reading (status_at (slice_index_or l.trees seg [])) 1);
}
