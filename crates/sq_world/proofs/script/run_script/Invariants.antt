use Rattle.std.proofs.Common.{◌≡◌, ◌+◌, ◌*◌}
use Rattle.sq_moves.specs.OpeningValue.{OpeningValue}
use Rattle.sq_model.specs.Trace.{Trace}
use Rattle.sq_text.specs.declared.buffer.TheConstants.{MAX_UNENDED}
use Rattle.sq_text.specs.Coming.{reads_left}
use Rattle.sq_world.specs.Script.{LeadsTo}
use Rattle.sq_world.proofs.Scripts.{Before}
use Rattle.sq_world.proofs.script.run_script.Given as goal

-- whatever history led to the world, it continues in what was written so far
abbrev pub invariant-loop-lines : goal.invariant-loop-lines
invariant-loop-lines g l =
    (o : OpeningValue) (t : Trace) → LeadsTo o t l.initial.world → o.tables ≡ l.schema → Before l.manner o t l.initial.lines l.lines (g.W.Write.contents l.initial.writer) (g.W.Write.contents l.writer) l.world

-- a line goes, or a read
abbrev pub decreases-loop-lines : goal.decreases-loop-lines
decreases-loop-lines g l = l.lines.lines_left * (MAX_UNENDED + 2) + reads_left l.lines
