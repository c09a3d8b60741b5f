use Rattle.std.proofs.Common.{List, sym, subst, arith}
use Rattle.std.specs.Prelude.{All}
use Rattle.sq_node.specs.NodeState.{IsNodeOf}
use Rattle.sq_shared.specs.Pump.{PumpValue}
use Rattle.sq_driver.specs.declared.teller.TellingNode.{TellingNode}
use Rattle.sq_driver.specs.Told.{AllDrivenTelling, nodes_of}
use Rattle.sq_driver.specs.Pumps.{HasAllSeats, AllPumpsDriven}
use Rattle.sq_driver.proofs.Together.{all_were_driven}
use Rattle.sq_driver.specs.declared.collector.Collector.{Collector}
use Rattle.sq_driver.specs.Collected.{CollectsOrBreaksOff}
use Rattle.sq_gather.specs.Gathered.{AreAllOf}
use Rattle.sq_gather.proofs.Workers.{pumps_of, written}
use Rattle.sq_driver.proofs.Driven.{whole_driven}
use Rattle.sq_driver.proofs.Collected.{Pairs, all_of_fabric}
use Rattle.sq_thread_tests.proofs.tests.run.TestRun.work.Goals as goal

pub run_workers-requires-clause-nodes : goal.run_workers-requires-clause-nodes
run_workers-requires-clause-nodes g c κs within =
    let run = c.args.self.now in
    subst (All (λ (pair : TellingNode Collector). IsNodeOf run.fabric pair.node)) (sym c.deref_mut.ensures.value) (all_of_fabric run.fabric run.nodes.items run.pumps.items run.whole)

pub run_workers-requires-clause-pumps : goal.run_workers-requires-clause-pumps
run_workers-requires-clause-pumps g c κs within =
    let run = c.args.self.now in
    subst (All (HasAllSeats run.fabric)) (sym c.deref_mut-2.ensures.value) (pumps_of run.fabric (nodes_of run.nodes.items) run.pumps.items run.whole)

pub invariant_of-self : goal.invariant_of-self
invariant_of-self g c =
    let run = c.args.self.now in
    let new = c.run_workers.new in
    let by_pairs = subst (λ (old : Pairs). AllDrivenTelling CollectsOrBreaksOff run.fabric old new.pairs) c.deref_mut.ensures.value c.run_workers.ensures.nodes in
    let by_pumps = subst (λ (old : List PumpValue). AllPumpsDriven run.fabric old new.pumps) c.deref_mut-2.ensures.value c.run_workers.ensures.pumps in
    let all_pairs = written run.nodes.items new.pairs run.nodes.len (omega (arith, run.nodes.ok.0, by_pairs.count)) in
    let all_pumps = written run.pumps.items new.pumps run.pumps.len (omega (arith, run.pumps.ok.0, by_pumps.count)) in
    record {
      whole = subst (λ (p : Pairs × List PumpValue). AreAllOf run.fabric (nodes_of p.0) p.1) (λ k. (sym all_pairs k, sym all_pumps k))
          (whole_driven run.fabric (nodes_of run.nodes.items) (nodes_of new.pairs) run.pumps.items new.pumps (all_were_driven CollectsOrBreaksOff run.fabric run.nodes.items new.pairs by_pairs) by_pumps run.whole);
    }
