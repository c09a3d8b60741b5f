use Rattle.sq_picture.specs.Json.{moved_range_data}
use Rattle.sq_picture.proofs.Values.{AreWritten}
use Rattle.sq_picture.proofs.json_text.ranges_value.Given as goal

abbrev pub invariant-loop-range : goal.invariant-loop-range
invariant-loop-range l = AreWritten moved_range_data l.ranges l.range-index l.values
