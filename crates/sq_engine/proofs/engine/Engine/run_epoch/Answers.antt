use Rattle.std.proofs.Common.{◌≡◌, List, sym, ap, ◌∙◌, subst}
use Rattle.std.specs.Prelude.{All}
use Rattle.sq_node.specs.FabricValue.{FabricValue}
use Rattle.sq_node.specs.NodeState.{NodeState, IsNodeOf}
use Rattle.sq_shared.specs.Pump.{PumpValue}
use Rattle.sq_driver.specs.Pumps.{HasAllSeats}
use Rattle.sq_driver.specs.Told.{nodes_of}
use Rattle.sq_gather.proofs.Workers.{nodes_of as each_node, pumps_of as each_pump}
use Rattle.sq_engine.specs.Values.{EngineValue, AtValue, Running, at_value, run_value}
use Rattle.sq_engine.specs.Engine.{HasProgressAt, HasProgress, ServesEpoch, segments_of}
use Rattle.sq_engine.proofs.Engines.{here, run_of}
use Rattle.sq_engine.proofs.Reached.{running_all}
use Rattle.sq_engine.proofs.ServedRuns.{served_reached, served_epoch}
use Rattle.sq_engine.proofs.engine.Engine.run_epoch.Goals as goal

pub run_ready-served-requires-clause-nodes : goal.run_ready-served-requires-clause-nodes
run_ready-served-requires-clause-nodes g c κs within =
    let run = c.in-Running.run' in
    let ready = c.in-Ok.ensures in
    let all = running_all (here c.self.inside) (run_of run) (ap at_value (sym c.in-Running.ensures.value)) c.self.invariant.2 in
    subst (λ (p : FabricValue × List NodeState). All (IsNodeOf p.0) p.1) (λ i. (sym ready.fabric i, sym ready.nodes i))
    (each_node run.fabric run.nodes.items run.pumps.items all)

pub run_ready-served-requires-clause-pumps : goal.run_ready-served-requires-clause-pumps
run_ready-served-requires-clause-pumps g c κs within =
    let run = c.in-Running.run' in
    let ready = c.in-Ok.ensures in
    let all = running_all (here c.self.inside) (run_of run) (ap at_value (sym c.in-Running.ensures.value)) c.self.invariant.2 in
    subst (λ (p : FabricValue × List PumpValue). All (HasAllSeats p.0) p.1) (λ i. (sym ready.fabric i, (sym ready.pumps i).items))
    (each_pump run.fabric run.nodes.items run.pumps.items all)

pub invariant_of-self : goal.invariant_of-self
invariant_of-self g c =
    let inside = c.self.inside in
    let was = c.self.invariant in
    let run = c.in-Running.run' in
    let ready = c.in-Ok.ensures in
    let given = c.in-Ok.ready in
    let served = c.run_ready-served in (
      was.0,
      was.1,
      served_reached g.C.Client.Becomes (here inside) (run_of run) (run_value given.fabric (nodes_of given.crew.pairs.items) given.crew.pumps.items)
          given.gate.segments served.new.jobs c.args.client.now served.result served.new.client
          (ap at_value (sym c.in-Running.ensures.value))
          (λ i. run_value (ready.fabric i) (ready.nodes i) (ready.pumps i).items) served.ensures.served was.2,
    )

pub returns-in-Ok-clause-served : goal.returns-in-Ok-clause-served
returns-in-Ok-clause-served g c =
    let inside = c.self.inside in
    let run = c.in-Running.run' in
    let ready = c.in-Ok.ensures in
    let given = c.in-Ok.ready in
    let served = c.run_ready-served in
    let at : at_value inside.at ≡ Running (run_of run) = ap at_value (sym c.in-Running.ensures.value) in
    let told : given.gate.segments ≡ segments_of (here inside).opening (run_of run) =
    ready.stage ∙ (subst (λ (a : AtValue). HasProgressAt (here inside).opening a c.progress-told.result) at
    (subst (λ (e : EngineValue). HasProgress e c.progress-told.result) (sym c.self.view_is) c.progress-told.ensures)).0 in
    let new : EngineValue = record (here inside) { jobs = served.new.jobs; at = Running (run_of served.result.run) } in
    subst (λ (e : EngineValue). ServesEpoch g.C.Client.Becomes e c.args.client.now served.result.end new served.new.client) c.self.view_is
    (served_epoch g.C.Client.Becomes (here inside) (run_of run) (run_value given.fabric (nodes_of given.crew.pairs.items) given.crew.pumps.items)
    given.gate.segments served.new.jobs c.args.client.now served.result served.new.client at
    (λ i. run_value (ready.fabric i) (ready.nodes i) (ready.pumps i).items) served.ensures.served c.self.invariant.2 told)
