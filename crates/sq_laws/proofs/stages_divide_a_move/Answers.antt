use Rattle.sq_laws.proofs.Stages.{divide}
use Rattle.sq_laws.proofs.stages_divide_a_move.Goals as goal

pub returns : goal.returns
returns c = divide
