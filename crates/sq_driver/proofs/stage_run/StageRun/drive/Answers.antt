use Rattle.std.proofs.Common.{◌++◌, List, length, take, drop, sym, subst, arith}
use Rattle.std.specs.Prelude.{All}
use Rattle.sq_shared.specs.Pump.{PumpValue}
use Rattle.sq_node.specs.NodeState.{IsNodeOf}
use Rattle.sq_driver.specs.declared.teller.TellingNode.{TellingNode}
use Rattle.sq_driver.specs.Nodes.{AllDriven}
use Rattle.sq_driver.specs.Told.{AllDrivenTelling, nodes_of}
use Rattle.sq_driver.specs.Pumps.{HasAllSeats, AllPumpsDriven}
use Rattle.sq_driver.proofs.Together.{all_were_driven}
use Rattle.sq_driver.specs.declared.collector.Collector.{Collector}
use Rattle.sq_driver.specs.Collected.{CollectsOrBreaksOff}
use Rattle.sq_gather.specs.Reopened.{IsRunInStage}
use Rattle.sq_gather.proofs.Workers.{pumps_of, written}
use Rattle.sq_driver.specs.StageRunValue.{StageRunValue, BeganFrom}
use Rattle.sq_driver.proofs.Driven.{run_driven}
use Rattle.sq_driver.proofs.Collected.{Pairs, HoldsOfRun, all_of_fabric, driven_holds}
use Rattle.sq_driver.proofs.stage_run.StageRun.drive.Goals as goal

pub run_workers-requires-clause-nodes : goal.run_workers-requires-clause-nodes
run_workers-requires-clause-nodes g c κs within =
    let run = c.self.inside in
    subst (All (λ (pair : TellingNode Collector). IsNodeOf run.fabric pair.node)) (sym c.deref_mut.ensures.value) (all_of_fabric run.fabric run.pairs.items run.pumps.items c.self.invariant.0)

pub run_workers-requires-clause-pumps : goal.run_workers-requires-clause-pumps
run_workers-requires-clause-pumps g c κs within =
    let run = c.self.inside in
    subst (All (HasAllSeats run.fabric)) (sym c.deref_mut-2.ensures.value) (pumps_of run.fabric (nodes_of run.pairs.items) run.pumps.items c.self.invariant.0)

pub invariant_of-self : goal.invariant_of-self
invariant_of-self g c =
    let run = c.self.inside in
    let new = c.run_workers.new in
    let pairs = subst (λ old. AllDrivenTelling CollectsOrBreaksOff run.fabric old new.pairs) c.deref_mut.ensures.value c.run_workers.ensures.nodes in
    let pumps = subst (λ old. AllPumpsDriven run.fabric old new.pumps) c.deref_mut-2.ensures.value c.run_workers.ensures.pumps in
    let pair_count = c.run_workers.ensures.nodes.count in
    let pump_count = c.run_workers.ensures.pumps.count in
    let all_pairs = written run.pairs.items new.pairs run.pairs.len (omega (arith, pair_count, c.deref_mut.ensures.len)) in
    let all_pumps = written run.pumps.items new.pumps run.pumps.len (omega (arith, pump_count, c.deref_mut-2.ensures.len)) in
    subst (λ (p : Pairs × List PumpValue). HoldsOfRun run.fabric p.0 p.1) (λ k. (sym all_pairs k, sym all_pumps k))
    (driven_holds run.fabric run.pairs.items new.pairs run.pumps.items new.pumps pairs pumps c.self.invariant)

pub returns-clause-nodes : goal.returns-clause-nodes
returns-clause-nodes g c =
    let run = c.self.inside in
    let new = c.run_workers.new in
    let pairs = subst (λ old. AllDrivenTelling CollectsOrBreaksOff run.fabric old new.pairs) c.deref_mut.ensures.value c.run_workers.ensures.nodes in
    let pair_count = c.run_workers.ensures.nodes.count in
    let all_pairs = written run.pairs.items new.pairs run.pairs.len (omega (arith, pair_count, c.deref_mut.ensures.len)) in
    let now = take run.pairs.len (new.pairs ++ drop (length new.pairs) run.pairs.items) in
    subst (λ (was : StageRunValue). AllDriven was.fabric was.nodes (nodes_of now)) c.self.view_is
    (subst (λ (list : Pairs). AllDriven run.fabric (nodes_of run.pairs.items) (nodes_of list)) (sym all_pairs) (all_were_driven CollectsOrBreaksOff run.fabric run.pairs.items new.pairs pairs))

pub returns-clause-stays : goal.returns-clause-stays
returns-clause-stays g c = λ o began is stage.
    let run = c.self.inside in
    let new = c.run_workers.new in
    let pairs = subst (λ old. AllDrivenTelling CollectsOrBreaksOff run.fabric old new.pairs) c.deref_mut.ensures.value c.run_workers.ensures.nodes in
    let pumps = subst (λ old. AllPumpsDriven run.fabric old new.pumps) c.deref_mut-2.ensures.value c.run_workers.ensures.pumps in
    let pair_count = c.run_workers.ensures.nodes.count in
    let pump_count = c.run_workers.ensures.pumps.count in
    let all_pairs = written run.pairs.items new.pairs run.pairs.len (omega (arith, pair_count, c.deref_mut.ensures.len)) in
    let all_pumps = written run.pumps.items new.pumps run.pumps.len (omega (arith, pump_count, c.deref_mut-2.ensures.len)) in
    subst (λ (p : Pairs × List PumpValue). IsRunInStage o began run.fabric (nodes_of p.0) p.1) (λ k. (sym all_pairs k, sym all_pumps k))
    (run_driven run.fabric (nodes_of run.pairs.items) (nodes_of new.pairs) run.pumps.items new.pumps (all_were_driven CollectsOrBreaksOff run.fabric run.pairs.items new.pairs pairs) pumps o began is
    (subst (BeganFrom o began) (sym c.self.view_is) stage))
