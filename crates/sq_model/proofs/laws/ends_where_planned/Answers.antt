-- The law is the theorem on ended moves.
use Rattle.sq_model.proofs.Ended.{ended_place}
use Rattle.sq_model.proofs.laws.ends_where_planned.Goals as goal

pub returns : goal.returns
returns c = λ o t root is legal ended. ended_place o is t legal ended root
