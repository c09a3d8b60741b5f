use Rattle.std.proofs.Common.{◌≡◌, ◌∙◌, get_or, Some, sym, arith}
use Rattle.sq_text.specs.Numbers.{digit_behind}
use Rattle.sq_text.proofs.DigitRun.{some_digit}
use Rattle.sq_text.proofs.NumberRun.{stops, goes_on}
use Rattle.sq_text.proofs.words.Words.digits.Goals as goal

pub returns-then-byte-ne32 : goal.returns-then-byte-ne32
returns-then-byte-ne32 c = stops c.args.bytes.now c.loop-at.at c.loop-at.value _ (omega arith) (sym c.with_digit.ensures ∙ c.in_default.is) c.if-byte-ne32.true c.loop-at.invariant.1

pub loop-at-preserved : goal.loop-at-preserved
loop-at-preserved c =
    let is : digit_behind c.loop-at.value (get_or c.args.bytes.now c.loop-at.at 0) ≡ Some c.in-Some.more = sym c.with_digit.ensures ∙ c.in-Some.is in
    ((some_digit c.loop-at.value (get_or c.args.bytes.now c.loop-at.at 0) c.in-Some.more is).small, goes_on c.args.bytes.now c.loop-at.at c.loop-at.value c.in-Some.more _ (omega arith) is c.loop-at.invariant.1)
