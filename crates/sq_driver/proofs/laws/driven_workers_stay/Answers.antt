use Rattle.sq_driver.proofs.Together.{all_stay, all_pumps_stay}
use Rattle.sq_driver.proofs.laws.driven_workers_stay.Goals as goal

pub returns-clause-nodes : goal.returns-clause-nodes
returns-clause-nodes c = all_stay

pub returns-clause-pumps : goal.returns-clause-pumps
returns-clause-pumps c = all_pumps_stay
