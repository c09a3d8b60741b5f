use Rattle.sq_world.proofs.Dumped.{dumped_alike}
use Rattle.sq_world.proofs.laws.a_history_has_one_dump.Goals as goal

pub returns : goal.returns
returns c = dumped_alike
