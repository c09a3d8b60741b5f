use Rattle.std.proofs.Common.{◌≡◌, ◌++◌, take}
use Rattle.std.specs.List.{flat_map}
use Rattle.sq_text.specs.Texts.{hex_byte_text}
use Rattle.sq_input.proofs.columns.push_hex.Given as goal

-- the digits so far follow what was there
abbrev pub invariant-loop-byte : goal.invariant-loop-byte
invariant-loop-byte l = l.line.items ≡ l.initial.line.items ++ flat_map hex_byte_text (take l.byte-index l.bytes)
