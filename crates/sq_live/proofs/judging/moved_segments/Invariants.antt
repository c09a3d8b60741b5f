use Rattle.sq_moves.specs.declared.segment.TheConstants.{SEGMENT_LIMIT}
use Rattle.sq_live.specs.Judged.{is_moved}
use Rattle.sq_leader.proofs.LedStages.{AreMarked}
use Rattle.sq_live.proofs.judging.moved_segments.Given as goal

-- of the segments so far those are marked that are complete
abbrev pub invariant-loop-seg : goal.invariant-loop-seg
invariant-loop-seg l = AreMarked SEGMENT_LIMIT l.seg (is_moved l.statuses) l.moved
