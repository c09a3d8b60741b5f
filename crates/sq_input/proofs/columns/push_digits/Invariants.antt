use Rattle.std.proofs.Common.{◌≡◌, ◌++◌, map, take}
use Rattle.sq_input.specs.Columns.{digit_byte}
use Rattle.sq_input.proofs.columns.push_digits.Given as goal

-- the digits so far follow what was there
abbrev pub invariant-loop-digit : goal.invariant-loop-digit
invariant-loop-digit l = l.line.items ≡ l.initial.line.items ++ map digit_byte (take l.digit-index l.digits)
