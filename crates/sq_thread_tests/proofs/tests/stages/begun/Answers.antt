use Rattle.sq_driver.proofs.Opening.{new_nodes, new_pumps}
use Rattle.sq_thread_tests.proofs.tests.stages.begun.Goals as goal

pub returns-clause-nodes : goal.returns-clause-nodes
returns-clause-nodes c =
    new_nodes c.args.opening.now c.in-Ok.stage.fabric _ c.in-Ok.stage.nodes.items c.in-Ok.ensures.run.each_node

pub returns-clause-pumps : goal.returns-clause-pumps
returns-clause-pumps c =
    new_pumps c.in-Ok.stage.fabric 1 c.in-Ok.stage.pumps.items c.in-Ok.ensures.run.each_pump
