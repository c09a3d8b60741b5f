use Rattle.sq_driver.proofs.Together.{all_hold}
use Rattle.sq_driver.proofs.laws.driven_nodes_hold.Goals as goal

pub returns : goal.returns
returns c = all_hold
