use Rattle.sq_exec.proofs.GivenUp.{given_up-with}
use Rattle.sq_exec.proofs.laws.a_node_gives_up_its_leaves.Goals as goal

pub returns : goal.returns
returns c = given_up-with
