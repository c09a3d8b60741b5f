use Rattle.sq_text.specs.Coming.{ReadsOn, reads_left}
use Rattle.sq_text.proofs.reader.LineReader.begins_read.Given as goal

-- what can come could come when it began
abbrev pub invariant-loop-begins : goal.invariant-loop-begins
invariant-loop-begins g l = ReadsOn l.fn.self l.self

abbrev pub decreases-loop-begins : goal.decreases-loop-begins
decreases-loop-begins g l = reads_left l.self
