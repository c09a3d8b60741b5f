-- The law is the theorem on legal traces.
use Rattle.sq_model.proofs.Orderly.{legal_orderly}
use Rattle.sq_model.proofs.laws.moves_in_order.Goals as goal

pub returns : goal.returns
returns c = λ o t is legal. legal_orderly o t is legal
