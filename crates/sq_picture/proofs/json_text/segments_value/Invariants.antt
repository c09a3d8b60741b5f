use Rattle.sq_picture.specs.Json.{segment_data}
use Rattle.sq_picture.proofs.Values.{AreWritten}
use Rattle.sq_picture.proofs.json_text.segments_value.Given as goal

abbrev pub invariant-loop-segment : goal.invariant-loop-segment
invariant-loop-segment l = AreWritten (segment_data l.recon) l.segments l.segment-index l.values
