use Rattle.std.proofs.Common.{◌∙◌, sym, arith}
use Rattle.sq_text.proofs.DigitRun.{stops, all_read}
use Rattle.sq_text.proofs.number.digits.Goals as goal

pub returns-in_err-value : goal.returns-in_err-value
returns-in_err-value c = rw c.from_residual.ensures (stops c.args.digits.now c.loop-digit.digit-index c.loop-digit.value _ (omega arith) (sym c.with_digit.ensures ∙ c.in_err-value.was) c.loop-digit.invariant.1)

pub returns : goal.returns
returns c = all_read c.args.digits.now c.loop-digit.digit-index c.loop-digit.value _ (omega arith) c.loop-digit.invariant.0 c.loop-digit.invariant.1
