use Rattle.std.proofs.Common.{◌≡◌, ◌<◌, ◌^◌, drop}
use Rattle.sq_text.specs.Numbers.{digits_in}
use Rattle.sq_text.proofs.DigitRun.{digits_after}
use Rattle.sq_text.proofs.number.digits.Given as goal

abbrev pub invariant-loop-digit : goal.invariant-loop-digit
invariant-loop-digit l = (l.value < 2 ^ 64) × (digits_after l.value (drop l.digit-index l.digits) ≡ digits_in l.digits)
