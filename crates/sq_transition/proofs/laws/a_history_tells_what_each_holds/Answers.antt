use Rattle.std.proofs.Common.{sym, ◌∙◌}
use Rattle.sq_transition.proofs.Alike.{chunk_is}
use Rattle.sq_transition.proofs.laws.a_history_tells_what_each_holds.Goals as goal

pub returns-clause-chunks : goal.returns-clause-chunks
returns-clause-chunks c = chunk_is

pub returns-clause-families : goal.returns-clause-families
returns-clause-families c = λ o t part one other root holds also. holds.store root ∙ sym (also.store root)

pub returns-clause-waiting : goal.returns-clause-waiting
returns-clause-waiting c = λ o t part one other holds also. holds.waiting ∙ sym also.waiting
