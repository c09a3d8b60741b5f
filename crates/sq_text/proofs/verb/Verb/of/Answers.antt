use Rattle.std.proofs.Common.{arith, rules}
use Rattle.sq_text.proofs.VerbWords.{of_five, of_seven, of_eight, too_long}
use Rattle.sq_text.proofs.verb.Verb.of.Goals as goal

pub returns-in_default-35 : goal.returns-in_default-35
returns-in_default-35 c = rw (of_five c.args.word.now (omega (arith, c.in_default.len_at_least, c.in_default.len_below))) (search rules)

pub returns-in_default-61 : goal.returns-in_default-61
returns-in_default-61 c = rw (of_seven c.args.word.now (omega (arith, c.in_default))) (search rules)

pub returns-in_default-69 : goal.returns-in_default-69
returns-in_default-69 c = rw (of_eight c.args.word.now (omega (arith, c.in_default))) (search rules)

pub returns-in_default-70 : goal.returns-in_default-70
returns-in_default-70 c = too_long c.args.word.now (omega (arith, c.in_default.len_at_least))
