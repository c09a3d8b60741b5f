-- The law is the theorem on the running stage.
use Rattle.sq_model.proofs.Staged.{tells_alone}
use Rattle.sq_model.proofs.laws.tells_by_stage.Goals as goal

pub returns : goal.returns
returns c = λ o t is legal. tells_alone o is t legal
