-- The law is what the running stage alone keeps.
use Rattle.sq_model.proofs.StageOrder.{orderly_since, other_notes, other_loads}
use Rattle.sq_model.proofs.laws.moves_in_order_by_stage.Goals as goal

pub returns-clause-order : goal.returns-clause-order
returns-clause-order c = λ o t is legal. orderly_since o is t legal

pub returns-clause-links : goal.returns-clause-links
returns-clause-links c = λ o t src dst is legal other. (other_notes o is t legal src dst other, other_loads o is t legal src dst other)
