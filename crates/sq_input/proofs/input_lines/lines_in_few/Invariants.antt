use Rattle.std.proofs.Common.{◌≤◌}
use Rattle.sq_input.proofs.input_lines.lines_in_few.Given as goal

abbrev pub invariant-loop-byte : goal.invariant-loop-byte
invariant-loop-byte l = l.lines ≤ l.byte-index
