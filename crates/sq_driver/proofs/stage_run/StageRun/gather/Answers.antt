use Rattle.std.proofs.Common.{◌≡◌, false, List, [], ◌∷◌, ◌++◌, length, sym, ap, ◌∙◌, subst, append_assoc, length-append, arith}
use Rattle.std.specs.Prelude.{All}
use Rattle.std.specs.List.{flat_map}
use Rattle.std.specs.Vec.Iter.{into_iter_items}
use Rattle.std.proofs.lemmas.List.{map-append, flat_map_more}
use Rattle.std.proofs.lemmas.List.Elements.{All-push}
use Rattle.sq_node_model.specs.NodeValue.{ReceiptValue}
use Rattle.sq_node.specs.NodeState.{NodeState}
use Rattle.sq_driver.specs.declared.teller.TellingNode.{TellingNode}
use Rattle.sq_driver.specs.Told.{nodes_of}
use Rattle.sq_driver.specs.declared.collector.Collector.{Collector}
use Rattle.sq_gather.specs.Gathered.{AreAllOf, IsGathered}
use Rattle.sq_gather.specs.Reopened.{IsRunInStage}
use Rattle.sq_driver.specs.StageRunValue.{StageRunValue, BeganFrom}
use Rattle.sq_driver.proofs.Driven.{run_gathered}
use Rattle.sq_driver.proofs.Collected.{Pairs, node_of, collected_of, taken_all, all_gathered}
use Rattle.sq_driver.proofs.stage_run.StageRun.gather.Goals as goal

pub loop-pair-preserved : goal.loop-pair-preserved
loop-pair-preserved g c =
    let at = c.loop-pair in
    let pair = c.in-Some.pair in
    let added = c.in_ok-add_told.ensures in
    let steps : into_iter_items at.pair-iterator ≡ pair ∷ into_iter_items c.next.new.self = c.in-Some.ensures.steps.0 in
    record {
      nodes = c.push_reserved.ensures.items ∙ ap (λ (nodes : List NodeState). nodes ++ pair.node ∷ []) at.invariant.nodes ∙ sym (map-append node_of at.yielded (pair ∷ []));
      told = added.told ∙ ap (λ (told : List ReceiptValue). told ++ collected_of pair) at.invariant.told ∙ flat_map_more collected_of c.args.told.items at.yielded pair;
      whole = All-push (λ (one : TellingNode Collector). one.teller.broke_off ≡ false) at.yielded pair at.invariant.whole added.goes_on;
      room = omega (
        arith,
        at.invariant.room,
        ap length steps,
        ap length c.push_reserved.ensures.items,
        length-append at.nodes.items (pair.node ∷ []),
        c.push_reserved.ensures.capacity,
      );
      rest = append_assoc at.yielded (pair ∷ []) (into_iter_items c.next.new.self) ∙ ap (λ (left : Pairs). at.yielded ++ left) (sym steps) ∙ at.invariant.rest;
    }

pub gather-requires : goal.gather-requires
gather-requires g c =
    let inside = c.self.inside in
    let at = c.loop-pair in
    let taken = taken_all at.yielded (into_iter_items at.pair-iterator) inside.pairs.items (at.invariant.rest ∙ c.into_iter-pair-iterator.ensures.into_iter_gives.0) (omega (arith, c.in-None.ensures.steps.0, at.pair-iterator.rest.ok)) in
    subst (λ (nodes : List NodeState). AreAllOf inside.fabric nodes inside.pumps.items) (sym (c.loop-pair.invariant.nodes ∙ ap nodes_of taken)) c.self.invariant.0

pub returns-in-Ok-clause-ran : goal.returns-in-Ok-clause-ran
returns-in-Ok-clause-ran g c = λ o began is run.
    let inside = c.self.inside in
    let at = c.loop-pair in
    let taken = taken_all at.yielded (into_iter_items at.pair-iterator) inside.pairs.items (at.invariant.rest ∙ c.into_iter-pair-iterator.ensures.into_iter_gives.0) (omega (arith, c.in-None.ensures.steps.0, at.pair-iterator.rest.ok)) in
    let same = c.loop-pair.invariant.nodes ∙ ap nodes_of taken in
    run_gathered inside.fabric c.loop-pair.nodes.items inside.pumps.items c.in-Ok.gathered c.in-Ok.ensures.gathered c.in-Ok.ensures.placed c.in-Ok.ensures.grows o began is
    (subst (λ (nodes : List NodeState). IsRunInStage o began inside.fabric nodes inside.pumps.items) (sym same) (subst (BeganFrom o began) (sym c.self.view_is) run))

pub returns-in-Ok-clause-told : goal.returns-in-Ok-clause-told
returns-in-Ok-clause-told g c = λ told.
    let inside = c.self.inside in
    let at = c.loop-pair in
    let taken = taken_all at.yielded (into_iter_items at.pair-iterator) inside.pairs.items (at.invariant.rest ∙ c.into_iter-pair-iterator.ensures.into_iter_gives.0) (omega (arith, c.in-None.ensures.steps.0, at.pair-iterator.rest.ok)) in
    let same = c.loop-pair.invariant.nodes ∙ ap nodes_of taken in
    let past = told ∙ sym (ap (λ (run : StageRunValue). run.fabric.receipts) c.self.view_is) in
    c.loop-pair.invariant.told
    ∙ (λ k. past k ++ flat_map collected_of (taken k))
    ∙ all_gathered inside.fabric inside.pairs.items inside.pumps.items c.in-Ok.gathered c.self.invariant
    (subst (λ (nodes : List NodeState). IsGathered inside.fabric nodes inside.pumps.items c.in-Ok.gathered) same c.in-Ok.ensures.gathered)
    (subst (All (λ (pair : TellingNode Collector). pair.teller.broke_off ≡ false)) taken c.loop-pair.invariant.whole)
