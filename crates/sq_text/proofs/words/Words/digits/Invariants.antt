use Rattle.std.proofs.Common.{◌≡◌, ◌<◌, ◌^◌, drop}
use Rattle.sq_text.specs.Words.{words_of}
use Rattle.sq_text.specs.Numbers.{digits_in}
use Rattle.sq_text.specs.Fields.{word_field}
use Rattle.sq_text.proofs.NumberRun.{number_after}
use Rattle.sq_text.proofs.words.Words.digits.Given as goal

abbrev pub invariant-loop-at : goal.invariant-loop-at
invariant-loop-at l = (l.value < 2 ^ 64) × (number_after l.value (drop l.at l.bytes) ≡ word_field digits_in (words_of l.bytes))
