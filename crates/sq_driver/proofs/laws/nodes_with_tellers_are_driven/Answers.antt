use Rattle.sq_driver.proofs.Together.{all_were_driven}
use Rattle.sq_driver.proofs.laws.nodes_with_tellers_are_driven.Goals as goal

pub returns : goal.returns
returns g c = all_were_driven g.T.Teller.Tells
