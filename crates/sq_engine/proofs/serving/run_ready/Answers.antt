use Rattle.std.proofs.Common.{◌≡◌, ◌∙◌, Bool, false, true, List, [], ◌∷◌, refl, ap, sym, subst}
use Rattle.sq_node.specs.NodeState.{IsNodeOf}
use Rattle.sq_engine.specs.declared.event.Event.{Event}
use Rattle.sq_engine.specs.declared.event.Event.TheVariants.{Loses}
use Rattle.sq_engine.specs.declared.serving.ServedRun.{ServedRun}
use Rattle.sq_engine.specs.Open.{OpenJobsValue}
use Rattle.sq_engine.specs.Clients.{InStage}
use Rattle.sq_engine.specs.Rings.{AreSameRings, Serves}
use Rattle.sq_engine.specs.Telling.{Ring, ArePaired, HasAllSent, are_whole}
use Rattle.sq_engine.proofs.Passing.{written, arrived_in_stage}
use Rattle.sq_engine.proofs.Resting.{Pair}
use Rattle.sq_engine.proofs.Arriving.{all_in_pairs, nodes_back, still_paired}
use Rattle.sq_engine.proofs.EpochServed.{IsTail, none_lost, some_lost, is_served}
use Rattle.sq_engine.proofs.serving.run_ready.Goals as goal
use Rattle.sq_engine.proofs.serving.run_ready.Goals.{then-not-is_whole, else-not-is_whole}

pub run_and_serve-workers-requires-clause-crew : goal.run_and_serve-workers-requires-clause-crew
run_and_serve-workers-requires-clause-crew g c κs within = record {
  nodes = all_in_pairs (IsNodeOf c.args.ready.fabric) c.args.ready.crew.pairs.items c.requires.nodes;
  pumps = c.requires.pumps;
}

pub give_rest-requires-clause-paired : goal.give_rest-requires-clause-paired
give_rest-requires-clause-paired g c =
    let ready = c.args.ready in
    let run = c.run_and_serve-workers in
    let same = run.ensures.served.passes.rings in
    let rings = subst (λ (list : List Ring). AreSameRings list run.new.rings) c.deref_mut.ensures.value same in
    let back : c.deref_mut-3.result.now ≡ run.new.rings = c.deref_mut-3.ensures.value
    ∙ written ready.rings.items run.new.rings ready.rings.len (sym c.deref_mut.ensures.len ∙ sym same.count) in
    subst (λ (p : List Pair × List Ring). ArePaired p.0 p.1)
    (λ k. (sym c.deref_mut-2.ensures.value k, sym back k))
    (still_paired ready.fabric ready.fabric.parts ready.crew.pairs.items run.new.crew.pairs.items
    ready.rings.items c.requires.ready.rings run.ensures.crew.nodes run.new.rings rings)

pub returns-clause-served : goal.returns-clause-served
returns-clause-served g c =
    let ready = c.args.ready in
    let segments = ready.gate.segments in
    let becomes = InStage segments g.C.Client.Becomes in
    let run = c.run_and_serve-workers in
    let crew = run.new.crew in
    let rest = c.give_rest.new in
    let lent = c.deref_mut-3.result.now in
    let jobs = c.if-not-is_whole.jobs in
    let back : lent ≡ run.new.rings = c.deref_mut-3.ensures.value
    ∙ written ready.rings.items run.new.rings ready.rings.len (sym c.deref_mut.ensures.len ∙ sym run.ensures.served.passes.rings.count) in
    let serves = subst (λ (p : List Ring × List Ring). Serves becomes c.args.jobs.now p.0 c.args.client.now run.new.jobs p.1 run.new.client run.result.1)
    (λ k. (c.deref_mut.ensures.value k, sym back k)) run.ensures.served in
    let given = arrived_in_stage g.C.Client.Becomes segments run.new.jobs lent run.new.client rest.jobs rest.rings rest.client c.give_rest.ensures.given in
    let sent = subst (λ (list : List Pair). HasAllSent list rest.rings) c.deref_mut-2.ensures.value c.give_rest.ensures.all in
    let nodes = c.without_tellers.ensures
    ∙ nodes_back crew.pairs.items c.deref_mut-2.result.now rest.pairs crew.pairs.len
    c.deref_mut-2.ensures.value c.deref_mut-2.ensures.len c.give_rest.ensures.nodes in
    let whole : c.are_whole-is_whole.result ≡ are_whole crew.pairs.items = c.are_whole-is_whole.ensures ∙ ap are_whole c.deref.ensures.value in
    let left : ServedRun = record {
      run = record { fabric = ready.fabric; nodes = c.without_tellers.result; pumps = crew.pumps };
      progress = c.progress.result;
      end = c.end_of.result;
    } in
    let served = λ (tail : List Event) (ends : IsTail becomes c.are_whole-is_whole.result tail rest.jobs jobs rest.client).
    is_served becomes ready.fabric ready.crew.pairs.items crew.pairs.items ready.rings.items lent rest.rings
    c.args.jobs.now run.new.jobs rest.jobs jobs c.args.client.now run.new.client rest.client run.result.1
    c.requires.ready.rings run.ensures.crew.nodes serves given sent
    tail (subst (λ (b : Bool). IsTail becomes b tail rest.jobs jobs rest.client) whole ends)
    ready.crew.pumps.items left run.result.0 run.ensures.crew.pumps refl nodes c.end_of.ensures in
    elim c.if-not-is_whole.branch [
      | then-not-is_whole w ↦
          served (Loses ∷ [])
          (subst (λ (p : Bool × OpenJobsValue). IsTail becomes p.0 (Loses ∷ []) rest.jobs p.1 rest.client)
          (λ k. (sym w.if-not-is_whole.true k, sym w.jobs-is k))
          (some_lost becomes rest.jobs w.lose.new.self rest.client w.lose.ensures))
      | else-not-is_whole w ↦
          served []
          (subst (λ (p : Bool × OpenJobsValue). IsTail becomes p.0 [] rest.jobs p.1 rest.client)
          (λ k. (sym w.if-not-is_whole.false k, sym w.jobs-is k))
          (none_lost becomes rest.jobs rest.client))
    ]
