use Rattle.std.proofs.Common.{arith, sym, subst}
use Rattle.std.proofs.lemmas.List.{length-map, get_or-map}
use Rattle.std.specs.Prelude.{All}
use Rattle.sq_node.specs.NodeState.{NodeState, IsNodeOf}
use Rattle.sq_driver.specs.declared.teller.TellingNode.{TellingNode}
use Rattle.sq_driver.specs.Pumps.{HasAllSeats}
use Rattle.sq_driver.specs.declared.collector.Collector.{Collector}
use Rattle.sq_thread_tests.proofs.tests.run.work_to_end.Goals as goal

pub run_workers-requires-clause-nodes : goal.run_workers-requires-clause-nodes
run_workers-requires-clause-nodes g c κs within =
    let fabric = c.args.fabric.now in
    let pairs = c.args.pairs.items in
    let node_of : TellingNode Collector → NodeState = λ pair. pair.node in
    subst (All (λ (pair : TellingNode Collector). IsNodeOf fabric pair.node)) (sym c.deref_mut.ensures.value)
    (λ i d lt. subst (IsNodeOf fabric) (get_or-map node_of pairs i d d.node lt) (c.requires.nodes i d.node (omega (arith, lt, length-map pairs node_of))))

pub run_workers-requires-clause-pumps : goal.run_workers-requires-clause-pumps
run_workers-requires-clause-pumps g c κs within = subst (All (HasAllSeats c.args.fabric.now)) (sym c.deref_mut-2.ensures.value) c.requires.pumps
