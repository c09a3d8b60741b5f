use Rattle.std.proofs.Common.{◌≡◌, ◌++◌, take}
use Rattle.sq_input.specs.Inputs.{on_one_line}
use Rattle.sq_input.proofs.input_plans.push_on_one_line.Given as goal

-- the text so far follows what was there
abbrev pub invariant-loop-byte : goal.invariant-loop-byte
invariant-loop-byte l = l.lines.items ≡ l.initial.lines.items ++ on_one_line (take l.byte-index l.text)
