-- The law is what legal traces keep.
use Rattle.sq_model.proofs.Apart.{cut_once, loaded_once}
use Rattle.sq_model.proofs.laws.moves_each_key_once.Goals as goal

pub returns-clause-cut : goal.returns-clause-cut
returns-clause-cut c = λ o t is legal. cut_once o is t legal

pub returns-clause-loaded : goal.returns-clause-loaded
returns-clause-loaded c = λ o t is legal. loaded_once o is t legal
