use Rattle.sq_text.proofs.Moves.{segments_next}
use Rattle.sq_text.proofs.moves_text.write_segments.Goals as goal

pub loop-seg-preserved : goal.loop-seg-preserved
loop-seg-preserved g c = segments_next c.args.recon.now c.segments-segments.result.now c.loop-seg.seg c.index-segments-seg.result c.told_stage-stage.result _ _ _ c.loop-seg-test.true c.index-segments-seg.is c.told_stage-stage.ensures c.loop-seg.invariant c.in_ok-write_segment.ensures
