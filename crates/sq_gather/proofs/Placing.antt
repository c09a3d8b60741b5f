-- What is gathered of a run is gathered of its nodes, and so it is placed.
use Rattle.std.proofs.Common.{◌≡◌, ℕ, ◌<◌, List, [], ◌++◌, length, map, Some, sym, ap, ◌∙◌, subst, append-nil, arith}
use Rattle.std.specs.Prelude.{slice_get}
use Rattle.std.specs.List.{flat_map}
use Rattle.std.proofs.lemmas.List.{length-map}
use Rattle.std.proofs.lemmas.List.Sorted.{IsPermutation-sym, length_permutation, Contains-permutation}
use Rattle.sq_model.proofs.Lists.{Contains-slice_get, slice_get-Contains}
use Rattle.std.proofs.lemmas.List.Concat.{flat_map-append}
use Rattle.std.proofs.lemmas.List.Folds.{flat_map-map}
use Rattle.sq_moves.specs.declared.recon.Link.{Link}
use Rattle.sq_moves.specs.ReconValue.{ReconValue, AreLinks}
use Rattle.sq_moves.specs.OpeningValue.{OpeningValue}
use Rattle.sq_moves.specs.Opening.{IsOpening}
use Rattle.sq_shared.specs.declared.view.View.{View}
use Rattle.sq_shared.specs.Seat.{SeatValue}
use Rattle.sq_shared.specs.Pump.{PumpValue}
use Rattle.sq_node_model.specs.BeganWith.{BeganWith, CanBegin}
use Rattle.sq_node_model.specs.NodeValue.{ReceiptValue, NodeValue}
use Rattle.sq_node_model.specs.NodeHolds.{NodeHolds}
use Rattle.sq_node_model.specs.Gathered.{GatheredLink, GatheredValue, HasEachLink, IsClosedTree, Gathers}
use Rattle.sq_node_model.specs.Placed.{IsPlaced, GoOn}
use Rattle.sq_node_model.proofs.Lists.{stands_at, map_at}
use Rattle.sq_node_model.proofs.Placed.{is_placed}
use Rattle.sq_node_model.proofs.Families.{go_on}
use Rattle.sq_node.specs.FabricValue.{FabricValue, HasBegun, IsFabric, AreStageLinks, ends_of}
use Rattle.sq_node.specs.NodeState.{NodeState, views_of, node_value}
use Rattle.sq_node.specs.Opened.{IsFabricOf}
use Rattle.sq_gather.specs.Trees.{view_with}
use Rattle.sq_gather.specs.Gathered.{AreAllOf, IsGathered, AllHold, owners_of, closed_ends}
use Rattle.sq_gather.proofs.Lists.{map_twice, flat_map_none}
use Rattle.sq_moves.proofs.LinksFrom.{one_each, each_link}
use Rattle.sq_gather.proofs.Staged.{ranges_in, linked_in, as_links}
use Rattle.sq_gather.proofs.Joined.{begun_grows, completed_grows}

abbrev no_closed_link : GatheredLink
no_closed_link = record { src = 0; dst = 0; notes = []; under_way = [] }

-- what all owners did at a segment is what the nodes did, where the pumps did nothing
from_nodes : (part : View → List (ℕ × ℕ)) (nodes : List NodeState) (pumps : List PumpValue) (seg : ℕ) → ((i : ℕ) (pump : PumpValue) → slice_get pumps i ≡ Some pump → part (views_of pump.seats seg) ≡ [])
    → flat_map part (map (λ (seats : List SeatValue). views_of seats seg) (owners_of nodes pumps)) ≡ flat_map (λ (node : NodeState). part (views_of node.seats seg)) nodes
from_nodes part nodes pumps seg none =
    let f : List SeatValue → List (ℕ × ℕ) = λ seats. part (views_of seats seg) in
    flat_map-map part (λ (seats : List SeatValue). views_of seats seg) (owners_of nodes pumps)
    ∙ flat_map-append f (map (λ (node : NodeState). node.seats) nodes) (map (λ (pump : PumpValue). pump.seats) pumps)
    ∙ (λ k. flat_map-map f (λ (node : NodeState). node.seats) nodes k ++ (flat_map-map f (λ (pump : PumpValue). pump.seats) pumps ∙ flat_map_none (λ (pump : PumpValue). part (views_of pump.seats seg)) pumps none) k)
    ∙ append-nil (flat_map (λ (node : NodeState). part (views_of node.seats seg)) nodes)

module _ (fabric : FabricValue) (given : List NodeState) (pumps : List PumpValue) (is : IsFabric fabric) (all : AreAllOf fabric given pumps) (g : GatheredValue) (gathered : IsGathered fabric given pumps g) where
  abbrev nodes : List NodeState
  nodes = gathered.by_part

  closed_tree : (seg : ℕ) → seg < length fabric.seats → IsClosedTree (map node_value nodes) g.statuses seg
  closed_tree seg low =
      let seat : (s : SeatValue) × (slice_get fabric.seats seg ≡ Some s) = stands_at fabric.seats seg low in
      let views = map (λ (seats : List SeatValue). views_of seats seg) (owners_of nodes pumps) in
      let first = all.seats.each seg seat.0 seat.1 in
      record {
        view = view_with seat.0.view (owners_of nodes pumps) seg;
        tree = gathered.statuses.each seg seat.0 seat.1;
        begun = begun_grows seat.0.view views ∙ ap (λ (view : View). view.begun ++ flat_map (λ (v : View). v.begun) views) first
            ∙ from_nodes (λ (v : View). v.begun) nodes pumps seg (λ i pump there. (all.each_pump i pump there).begun seg)
            ∙ sym (flat_map-map (λ (node : NodeValue). node.begun seg) node_value nodes);
        completed = completed_grows seat.0.view views ∙ ap (λ (view : View). view.completed ++ flat_map (λ (v : View). v.completed) views) first
            ∙ from_nodes (λ (v : View). v.completed) nodes pumps seg (λ i pump there. (all.each_pump i pump there).completed seg)
            ∙ sym (flat_map-map (λ (node : NodeValue). node.completed seg) node_value nodes);
      }

  as_many_seats : length fabric.seats ≡ length fabric.recon.segments
  as_many_seats = sym (length-map fabric.seats (λ (seat : SeatValue). seat.tree)) ∙ ap length is.seats ∙ is.trees

  module _ (o : OpeningValue) (began : BeganWith) (opening : IsOpening o) (of : IsFabricOf o fabric) (begun : HasBegun began fabric) (hold : AllHold o began given) where
    holds_at : (part : ℕ) (node : NodeState) → slice_get nodes part ≡ Some node → NodeHolds o began (node_value node)
    holds_at part node there =
        let has = Contains-permutation nodes given node (IsPermutation-sym given nodes gathered.ordered.same) (Contains-slice_get nodes part node there) in
        hold has.0 node (slice_get-Contains given node has)

    are_links : AreLinks (ranges_in o.recon g.stage) (map closed_ends g.links)
    are_links =
        as_links o.recon g.stage (map closed_ends g.links)
        (subst (λ (stage : ℕ). AreStageLinks o.recon stage (map closed_ends g.links)) (sym gathered.stage)
        (subst (λ (links : List Link). AreStageLinks o.recon fabric.stage links) (sym gathered.ends)
        (subst (λ (recon : ReconValue). AreStageLinks recon fabric.stage (map ends_of fabric.links)) of.recon is.links)))

    each_of_links : HasEachLink o g.stage g.links
    each_of_links = record {
      ends = λ src dst. each_link closed_ends (ranges_in o.recon g.stage) g.links no_closed_link are_links src dst ∙ linked_in o.recon g.stage src dst o.recon.ranges;
      one_each = one_each closed_ends (ranges_in o.recon g.stage) g.links no_closed_link are_links;
    }

    gathers : Gathers o began (map node_value nodes) g
    gathers = record {
      stage = gathered.stage ∙ sym begun.stage;
      count = length-map nodes node_value ∙ length_permutation given nodes gathered.ordered.same ∙ all.count ∙ of.parts;
      parts = λ p node there. let at = map_at node_value nodes p node there in ap (λ (n : NodeValue). n.part) (sym at.2) ∙ gathered.ordered.each p at.0 at.1;
      holds = λ p node there. let at = map_at node_value nodes p node there in subst (NodeHolds o began) at.2 (holds_at p at.0 at.1);
      stores = gathered.stores ∙ sym (map_twice (λ (node : NodeValue). node.store) node_value nodes);
      receipts = gathered.receipts ∙ ap (λ (list : List ReceiptValue). fabric.receipts ++ list) (sym (flat_map-map (λ (node : NodeValue). node.receipts) node_value nodes))
          ∙ ap (λ (past : List ReceiptValue). past ++ flat_map (λ (node : NodeValue). node.receipts) (map node_value nodes)) (sym begun.receipts);
      each_link = each_of_links;
      links = gathered.links;
      all_statuses = gathered.statuses.count ∙ as_many_seats ∙ ap (λ (recon : ReconValue). length recon.segments) of.recon;
      trees = λ seg low. closed_tree seg (omega (arith, low, as_many_seats, ap (λ (recon : ReconValue). length recon.segments) of.recon));
    }

    pub placed : CanBegin o began → IsPlaced o g
    placed can = is_placed o began opening (map node_value nodes) g gathers can

    pub goes_on : GoOn began g
    goes_on = go_on o began opening (map node_value nodes) g gathers
