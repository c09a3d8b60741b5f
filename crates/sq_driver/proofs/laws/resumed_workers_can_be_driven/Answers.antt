use Rattle.sq_driver.proofs.Opening.{new_nodes, new_pumps}
use Rattle.sq_driver.proofs.laws.resumed_workers_can_be_driven.Goals as goal

pub returns-clause-nodes : goal.returns-clause-nodes
returns-clause-nodes c fabric nodes pumps begun = new_nodes begun.o fabric begun.stores nodes begun.reopened.each_node

pub returns-clause-pumps : goal.returns-clause-pumps
returns-clause-pumps c fabric nodes pumps begun = new_pumps fabric begun.count pumps begun.reopened.each_pump
