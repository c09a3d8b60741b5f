use Rattle.std.proofs.Common.{◌≡◌, ◌++◌, map, take}
use Rattle.sq_input.specs.Columns.{word_byte}
use Rattle.sq_input.proofs.columns.push_word.Given as goal

-- the word so far follows what was there
abbrev pub invariant-loop-byte : goal.invariant-loop-byte
invariant-loop-byte l = l.line.items ≡ l.initial.line.items ++ map word_byte (take l.byte-index l.bytes)
