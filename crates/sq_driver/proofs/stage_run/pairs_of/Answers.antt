use Rattle.std.proofs.Common.{◌≡◌, List, [], ◌∷◌, ◌++◌, sym, ap, ◌∙◌, subst, append_assoc, arith}
use Rattle.std.specs.Prelude.{All}
use Rattle.std.specs.Vec.Iter.{into_iter_items}
use Rattle.std.proofs.lemmas.List.{map-append}
use Rattle.std.proofs.lemmas.List.Elements.{All-push}
use Rattle.sq_node.specs.NodeState.{NodeState}
use Rattle.sq_driver.specs.declared.teller.TellingNode.{TellingNode}
use Rattle.sq_driver.specs.Told.{nodes_of}
use Rattle.sq_driver.specs.declared.collector.Collector.{Collector}
use Rattle.sq_driver.proofs.Collected.{Pairs, node_of, collected_of, taken_all, new_collected}
use Rattle.sq_driver.proofs.stage_run.pairs_of.Goals as goal

pub loop-node-preserved : goal.loop-node-preserved
loop-node-preserved c =
    let at = c.loop-node in
    let node = c.in-Some.node in
    let pair : TellingNode Collector = record { node = node; teller = c.new-teller.result } in
    let steps : into_iter_items at.node-iterator ≡ node ∷ into_iter_items c.next.new.self = c.in-Some.ensures.steps.0 in
    let more : c.push_reserved.new.self.items ≡ at.pairs.items ++ pair ∷ [] = c.push_reserved.ensures.items in
    record {
      nodes = ap (λ (pairs : Pairs). nodes_of pairs) more ∙ map-append node_of at.pairs.items (pair ∷ []) ∙ ap (λ (nodes : List NodeState). nodes ++ node ∷ []) at.invariant.nodes;
      empty = subst (All (λ (one : TellingNode Collector). collected_of one ≡ [])) (sym more) (All-push (λ (one : TellingNode Collector). collected_of one ≡ []) at.pairs.items pair at.invariant.empty c.new-teller.ensures.receipts);
      room = c.push_reserved.ensures.capacity ∙ at.invariant.room;
      rest = append_assoc at.yielded (node ∷ []) (into_iter_items c.next.new.self) ∙ ap (λ (left : List NodeState). at.yielded ++ left) (sym steps) ∙ at.invariant.rest;
    }

pub returns-clause-nodes : goal.returns-clause-nodes
returns-clause-nodes c =
    let at = c.loop-node in
    at.invariant.nodes ∙ taken_all at.yielded (into_iter_items at.node-iterator) c.args.nodes.items (at.invariant.rest ∙ c.into_iter-node-iterator.ensures.into_iter_gives.0) (omega (arith, c.in-None.ensures.steps.0, at.node-iterator.rest.ok))

pub returns-clause-collected : goal.returns-clause-collected
returns-clause-collected c =
    let at = c.loop-node in
    new_collected c.args.nodes.items at.pairs.items
    (at.invariant.nodes ∙ taken_all at.yielded (into_iter_items at.node-iterator) c.args.nodes.items (at.invariant.rest ∙ c.into_iter-node-iterator.ensures.into_iter_gives.0) (omega (arith, c.in-None.ensures.steps.0, at.node-iterator.rest.ok)))
    c.requires at.invariant.empty
