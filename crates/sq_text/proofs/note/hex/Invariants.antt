use Rattle.std.proofs.Common.{◌≡◌, ◌*◌, ◌/◌, length, take, drop}
use Rattle.sq_text.specs.Notes.{hex_in}
use Rattle.sq_text.proofs.Onto.{onto}
use Rattle.sq_text.proofs.note.hex.Given as goal

abbrev pub invariant-loop-at : goal.invariant-loop-at
invariant-loop-at l = (length l.bytes.items ≡ length l.digits / 2) × (onto (take l.at l.bytes.items) (hex_in (drop (2 * l.at) l.digits)) ≡ hex_in l.digits)
