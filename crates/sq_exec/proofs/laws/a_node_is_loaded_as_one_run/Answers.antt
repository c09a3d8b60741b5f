use Rattle.sq_exec.proofs.Tiles.{one_run}
use Rattle.sq_exec.proofs.laws.a_node_is_loaded_as_one_run.Goals as goal

pub returns : goal.returns
returns c = one_run
