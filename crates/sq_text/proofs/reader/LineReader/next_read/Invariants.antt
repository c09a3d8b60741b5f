use Rattle.sq_text.specs.Coming.{ReadsOn, reads_left}
use Rattle.sq_text.proofs.reader.LineReader.next_read.Given as goal

-- what can come could come when it began
abbrev pub invariant-loop-self : goal.invariant-loop-self
invariant-loop-self g l = ReadsOn l.fn.self l.self

abbrev pub decreases-loop-self : goal.decreases-loop-self
decreases-loop-self g l = reads_left l.self
