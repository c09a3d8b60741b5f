use Rattle.std.proofs.Common.{rules, ◌≡◌, List, ap, sym, subst, ◌∙◌, length}
use Rattle.sq_node_model.specs.Folded.{folded_opening}
use Rattle.sq_node.specs.FabricValue.{FabricValue, IsFabric}
use Rattle.sq_node.specs.NodeState.{NodeState}
use Rattle.sq_node.specs.Opened.{IsReopened}
use Rattle.sq_node.proofs.NewNodes.{told_run, told_fabric, new_nodes_hold, rowless_nodes}
use Rattle.sq_node.proofs.fabric.Fabric.resumed.Goals as goal

pub returns-in-Ok-open_run-clause-run : goal.returns-in-Ok-open_run-clause-run
returns-in-Ok-open_run-clause-run c =
    let o = c.args.opening.now in
    let stores = c.args.stores.items in
    let told = c.args.receipts.items in
    let fabric = c.in-Ok-open_run.opened.fabric in
    let nodes = c.in-Ok-open_run.opened.nodes.items in
    let pumps = c.in-Ok-open_run.opened.pumps.items in
    let same : c.post_left.new.fabric ≡ record fabric { receipts = told } = c.post_left.ensures.fabric ∙ ap (λ (f : FabricValue). record f { receipts = told }) c.fabric.view_is in
    subst (λ (f : FabricValue). IsReopened o c.args.stage stores told c.args.pumps f c.post_left.new.nodes.items pumps) (sym same)
    (subst (λ (ns : List NodeState). IsReopened o c.args.stage stores told c.args.pumps (record fabric { receipts = told }) ns pumps) (sym c.post_left.ensures.nodes)
    (told_run o c.args.stage stores told c.args.pumps fabric nodes pumps c.in-Ok-open_run.ensures.run))

pub returns-in-Ok-open_run-clause-holds : goal.returns-in-Ok-open_run-clause-holds
returns-in-Ok-open_run-clause-holds c = λ table began begun can opens.
    let o = c.args.opening.now in
    let stores = c.args.stores.items in
    let fabric = c.post_left.new.fabric in
    let nodes = c.post_left.new.nodes.items in
    let count : length stores ≡ o.old.parts = search rules in
    new_nodes_hold (folded_opening o table) began fabric stores nodes count begun can opens
    (rowless_nodes o table fabric stores nodes (returns-in-Ok-open_run-clause-run c).each_node)

pub returns-in-Ok-open_run-clause-fabric : goal.returns-in-Ok-open_run-clause-fabric
returns-in-Ok-open_run-clause-fabric c =
    let told = c.args.receipts.items in
    let fabric = c.in-Ok-open_run.opened.fabric in
    let same : c.post_left.new.fabric ≡ record fabric { receipts = told } = c.post_left.ensures.fabric ∙ ap (λ (f : FabricValue). record f { receipts = told }) c.fabric.view_is in
    subst IsFabric (sym same) (told_fabric fabric told c.in-Ok-open_run.ensures.fabric)
