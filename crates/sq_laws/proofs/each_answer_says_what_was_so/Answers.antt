use Rattle.sq_laws.proofs.Says.{says}
use Rattle.sq_laws.proofs.each_answer_says_what_was_so.Goals as goal

pub returns : goal.returns
returns c = λ o t step given is legal answered. says o is t legal step given answered
