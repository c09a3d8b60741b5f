use Rattle.sq_node.specs.Opened.{opened_stores}
use Rattle.sq_driver.proofs.Opening.{new_nodes, new_pumps, opened_hold}
use Rattle.sq_driver.proofs.laws.opened_workers_can_be_driven.Goals as goal

pub returns-clause-nodes : goal.returns-clause-nodes
returns-clause-nodes c o count fabric nodes pumps opened = new_nodes o fabric (opened_stores o) nodes opened.each_node

pub returns-clause-pumps : goal.returns-clause-pumps
returns-clause-pumps c o count fabric nodes pumps opened = new_pumps fabric count pumps opened.each_pump

pub returns-clause-hold : goal.returns-clause-hold
returns-clause-hold c = opened_hold
