use Rattle.std.proofs.Common.{arith}
use Rattle.sq_moves.specs.declared.segment.TheConstants.{SEGMENT_LIMIT}
use Rattle.sq_live.specs.Judged.{is_moved}
use Rattle.sq_leader.proofs.LedStages.{none_yet, set_next}
use Rattle.sq_live.proofs.judging.moved_segments.Goals as goal

pub loop-seg-init : goal.loop-seg-init
loop-seg-init c = none_yet SEGMENT_LIMIT (is_moved c.args.statuses.now)

pub loop-seg-preserved : goal.loop-seg-preserved
loop-seg-preserved c =
    set_next SEGMENT_LIMIT (is_moved c.args.statuses.now) c.loop-seg.seg c.loop-seg.moved c.reads_complete.result (omega (arith, c.min-seg-end.ensures)) c.loop-seg.invariant (c.reads_complete.ensures 5 (omega arith))
