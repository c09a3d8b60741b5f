use Rattle.sq_node.specs.Opened.{opened_stores}
use Rattle.sq_driver.proofs.Opening.{new_nodes, new_pumps}
use Rattle.sq_thread_tests.proofs.tests.closing.opened.Goals as goal

pub returns-clause-nodes : goal.returns-clause-nodes
returns-clause-nodes c =
    let o = c.args.opening.now in
    new_nodes o c.in_ok-parts.parts.fabric (opened_stores o) c.in_ok-parts.parts.nodes.items c.in_ok-parts.ensures.opened.each_node

pub returns-clause-pumps : goal.returns-clause-pumps
returns-clause-pumps c =
    new_pumps c.in_ok-parts.parts.fabric 0 c.in_ok-parts.parts.pumps.items c.in_ok-parts.ensures.opened.each_pump
