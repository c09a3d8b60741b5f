use Rattle.sq_node_model.proofs.Began.{first_can}
use Rattle.sq_node_model.proofs.laws.an_opening_can_begin.Goals as goal

pub returns : goal.returns
returns c = first_can
