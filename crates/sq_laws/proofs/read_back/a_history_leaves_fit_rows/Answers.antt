use Rattle.sq_laws.proofs.Worlds.{world_fits}
use Rattle.sq_laws.proofs.read_back.a_history_leaves_fit_rows.Goals as goal

pub returns : goal.returns
returns c = λ tables o t w is legal holds table fit. world_fits o t is legal tables table fit w holds
