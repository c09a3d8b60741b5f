use Rattle.std.proofs.Common.{◌≡◌, ◌&&◌, drop}
use Rattle.sq_text.proofs.HexRun.{are_digits}
use Rattle.sq_text.proofs.note.are_hex_digits.Given as goal

abbrev pub invariant-loop-digit : goal.invariant-loop-digit
invariant-loop-digit l = (l.all && are_digits (drop l.digit-index l.digits)) ≡ are_digits l.digits
