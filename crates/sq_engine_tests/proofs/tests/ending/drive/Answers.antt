use Rattle.std.proofs.Common.{[], sym, subst, arith}
use Rattle.std.specs.Prelude.{All}
use Rattle.sq_node.specs.NodeState.{IsNodeOf}
use Rattle.sq_driver.specs.declared.teller.TellingNode.{TellingNode}
use Rattle.sq_driver.specs.Told.{AllDrivenTelling, nodes_of}
use Rattle.sq_driver.proofs.Together.{all_were_driven}
use Rattle.sq_driver.specs.declared.collector.Collector.{Collector}
use Rattle.sq_driver.specs.Collected.{CollectsOrBreaksOff}
use Rattle.sq_gather.specs.Gathered.{AreAllOf}
use Rattle.sq_gather.proofs.Workers.{written}
use Rattle.sq_gather.proofs.Lists.{empty}
use Rattle.sq_driver.proofs.Driven.{whole_driven}
use Rattle.sq_driver.proofs.Collected.{Pairs, all_of_fabric}
use Rattle.sq_engine_tests.proofs.tests.ending.drive.Goals as goal

pub run_workers-requires-clause-nodes : goal.run_workers-requires-clause-nodes
run_workers-requires-clause-nodes g c κs within =
    let fabric = c.args.fabric.now in
    subst (All (λ (pair : TellingNode Collector). IsNodeOf fabric pair.node)) (sym c.deref_mut.ensures.value) (all_of_fabric fabric c.args.pairs.items [] c.requires)

pub returns : goal.returns
returns g c =
    let fabric = c.args.fabric.now in
    let old = c.args.pairs.items in
    let new = c.run_workers.new.pairs in
    let pumps = c.run_workers.new.pumps in
    let pairs = subst (λ (was : Pairs). AllDrivenTelling CollectsOrBreaksOff fabric was new) c.deref_mut.ensures.value c.run_workers.ensures.nodes in
    let none = empty pumps c.run_workers.ensures.pumps.count in
    let all_pairs = written old new c.args.pairs.len (omega (arith, pairs.count, c.deref_mut.ensures.len)) in
    subst (λ (list : Pairs). AreAllOf fabric (nodes_of list) []) (sym all_pairs)
    (subst (AreAllOf fabric (nodes_of new)) none
    (whole_driven fabric (nodes_of old) (nodes_of new) [] pumps (all_were_driven CollectsOrBreaksOff fabric old new pairs) c.run_workers.ensures.pumps c.requires))
