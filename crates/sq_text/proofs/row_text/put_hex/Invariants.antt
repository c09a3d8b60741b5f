use Rattle.std.proofs.Common.{◌≡◌, ◌*◌, take}
use Rattle.std.specs.List.{flat_map}
use Rattle.sq_text.specs.Texts.{hex_byte_text}
use Rattle.sq_text.proofs.row_text.put_hex.Given as goal

abbrev pub invariant-loop-at : goal.invariant-loop-at
invariant-loop-at l = take (2 * l.at) l.text ≡ flat_map hex_byte_text (take l.at l.bytes)
