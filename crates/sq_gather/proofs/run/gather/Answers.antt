use Rattle.std.proofs.Common.{◌≡◌, ◌∙◌, ℕ, ◌<◌, List, [], length, subst, rules, Some, arith}
use Rattle.std.specs.Prelude.{slice_get}
use Rattle.std.specs.List.Sorted.{IsNonDecreasingBy}
use Rattle.std.proofs.lemmas.List.Sorted.{answers_always, IsNonDecreasingBy-from_sort, length_permutation}
use Rattle.sq_shared.specs.Values.{LinkValue}
use Rattle.sq_shared.specs.Seat.{SeatValue}
use Rattle.sq_node_model.proofs.Lists.{stands_at}
use Rattle.sq_node.specs.FabricValue.{FabricValue, IsFabric}
use Rattle.sq_node.specs.NodeState.{NodeState}
use Rattle.sq_gather.specs.Links.{AreClosed as AreClosedLinks}
use Rattle.sq_gather.specs.Trees.{AreClosed as AreClosedTrees}
use Rattle.sq_gather.specs.GatheringValue.{GatheringValue, IsReserved, AddsNodes}
use Rattle.sq_gather.specs.Gathered.{AreByPart, IsGathered}
use Rattle.sq_gather.proofs.ByPart.{AllInOrder, LinksHaveNodes, part_of, all_in_order, ordered, links_have_nodes}
use Rattle.sq_gather.proofs.Whole.{with_past, room_in_order, each_addable, room_for_nodes, room_for_pumps, each_kept, closable_with, is_gathered}
use Rattle.sq_gather.proofs.Placing.{placed, goes_on}
use Rattle.sq_gather.proofs.run.gather.Goals as goal
use Rattle.sq_gather.proofs.run.gather.Goals.{After-add_receipts}
use Rattle.sq_gather.proofs.run.gather.Given.{Over}

-- what was reserved is for all nodes and pumps
for_all : (fabric : FabricValue) (nodes was : List NodeState) (pumps count : ℕ) (gathering : GatheringValue) → was ≡ nodes → count ≡ pumps → IsReserved [] fabric was count gathering → IsReserved [] fabric nodes pumps gathering
for_all fabric nodes was pumps count gathering are is reserved = subst (λ (all : List NodeState × ℕ). IsReserved [] fabric all.0 all.1 gathering) (λ i. (are i, is i)) reserved

-- the nodes in the order of their partitions
abbrev by_part : (g : Over) → After-add_receipts g → List NodeState
by_part g c = c.sort_unstable_by_key.new.self.items

rise : (g : Over) (c : After-add_receipts g) → IsNonDecreasingBy part_of (by_part g c)
rise g c = IsNonDecreasingBy-from_sort part_of (by_part g c) (c.sort_unstable_by_key.ensures.sorted part_of (answers_always _ _ _ (λ f a r g called. search rules)))

all : (g : Over) (c : After-add_receipts g) → AllInOrder c.args.run.fabric (by_part g c) c.args.run.pumps.items
all g c = all_in_order c.args.run.fabric c.args.run.nodes.items (by_part g c) c.args.run.pumps.items c.requires c.sort_unstable_by_key.ensures.permutation (rise g c)

are_ordered : (g : Over) (c : After-add_receipts g) → AreByPart c.args.run.nodes.items (by_part g c)
are_ordered g c = ordered c.args.run.fabric c.args.run.nodes.items (by_part g c) c.args.run.pumps.items c.requires c.sort_unstable_by_key.ensures.permutation (rise g c)

-- there is room for them once the receipts of earlier stages are added
begun : (g : Over) (c : After-add_receipts g) → IsReserved c.args.run.fabric.receipts c.args.run.fabric (by_part g c) (length c.args.run.pumps.items) c.add_receipts.new.self
begun g c =
    let was = for_all c.args.run.fabric c.args.run.nodes.items _ (length c.args.run.pumps.items) _ c.in-Ok.gathering c.deref.ensures.value (search rules) c.in-Ok.ensures.reserved in
    with_past c.args.run.fabric (by_part g c) (length c.args.run.pumps.items) c.in-Ok.gathering
    (room_in_order c.args.run.fabric c.args.run.nodes.items (by_part g c) (length c.args.run.pumps.items) [] c.in-Ok.gathering c.sort_unstable_by_key.ensures.permutation was)
    c.into_parts-stage.result.receipts.items c.into_parts-stage.ensures.receipts c.add_receipts.new.self c.add_receipts.ensures

-- there is a node
some : (g : Over) (c : After-add_receipts g) → 0 < length c.args.run.nodes.items
some g c = search rules

-- each link leads from a node to another, once all nodes are added
linked : (g : Over) (c : After-add_receipts g) (added : GatheringValue) → AddsNodes c.add_receipts.new.self (by_part g c) added → LinksHaveNodes c.args.run.fabric
linked g c added adds =
    let fabric = c.args.run.fabric in
    let nodes = by_part g c in
    let many = length_permutation c.args.run.nodes.items nodes c.sort_unstable_by_key.ensures.permutation in
    let first : (node : NodeState) × (slice_get nodes 0 ≡ Some node) = stands_at nodes 0 (omega (arith, some g c, many)) in
    let is : IsFabric fabric = c.into_parts-stage.ensures.fabric in
    links_have_nodes fabric first.0 is c.in-Ok.ensures.recon ((all g c).each_node 0 first.0 first.1).0
    (each_kept fabric nodes c.args.run.pumps.items is (all g c) c.add_receipts.new.self (begun g c) added adds 0 first.0 first.1)

pub add_nodes-requires-clause-ends : goal.add_nodes-requires-clause-ends
add_nodes-requires-clause-ends g c =
    let path = (goal.at.add_nodes-requires-clause-ends g c).After-add_receipts in
    each_addable c.args.run.fabric (by_part g path) c.args.run.pumps.items c.into_parts-stage.ensures.fabric (all g path) c.add_receipts.new.self (begun g path)

pub add_nodes-requires-clause-room : goal.add_nodes-requires-clause-room
add_nodes-requires-clause-room g c =
    let path = (goal.at.add_nodes-requires-clause-room g c).After-add_receipts in
    room_for_nodes c.args.run.fabric (by_part g path) c.args.run.pumps.items c.into_parts-stage.ensures.fabric (all g path) c.add_receipts.new.self (begun g path)

pub add_pumps-requires : goal.add_pumps-requires
add_pumps-requires g c =
    let path = (goal.at.add_pumps-requires g c).After-add_receipts in
    room_for_pumps c.args.run.fabric (by_part g path) c.args.run.pumps.items c.into_parts-stage.ensures.fabric (all g path)
    c.add_receipts.new.self (begun g path) c.add_nodes.new.self c.add_nodes.ensures

pub close-requires : goal.close-requires
close-requires g c =
    let path = goal.at.close-requires g c in
    let parts = c.into_parts-stage.ensures in
    closable_with c.args.run.fabric (by_part g path.After-add_receipts) c.args.run.pumps.items parts.fabric (all g path.After-add_receipts)
    c.add_receipts.new.self (begun g path.After-add_receipts) c.add_nodes.new.self c.add_nodes.ensures (linked g path.After-add_receipts c.add_nodes.new.self c.add_nodes.ensures) c.add_pumps.new.self c.add_pumps.ensures
    _ _ _ parts.trees parts.seats parts.links

pub returns-clause-gathered : goal.returns-clause-gathered
returns-clause-gathered g c =
    let path = goal.at.returns-clause-gathered g c in
    let parts = c.into_parts-stage.ensures in
    let whole = c.add_pumps.new.self in
    let closed = c.close.ensures in
    let links : AreClosedLinks c.args.run.fabric.links whole.ends c.close.result.links = subst (λ (links : List LinkValue). AreClosedLinks links whole.ends c.close.result.links) parts.links closed.links in
    let statuses : AreClosedTrees c.args.run.fabric.seats whole.owners c.close.result.statuses = subst (λ (seats : List SeatValue). AreClosedTrees seats whole.owners c.close.result.statuses) parts.seats closed.statuses in
    is_gathered c.args.run.fabric (by_part g path.After-add_receipts) c.args.run.pumps.items parts.fabric (all g path.After-add_receipts)
    c.add_receipts.new.self (begun g path.After-add_receipts) c.add_nodes.new.self c.add_nodes.ensures (linked g path.After-add_receipts c.add_nodes.new.self c.add_nodes.ensures) whole c.add_pumps.ensures c.close.result
    closed.stores closed.receipts closed.left closed.waiting (closed.stage ∙ parts.stage) links statuses
    c.args.run.nodes.items (are_ordered g path.After-add_receipts)

pub returns-clause-placed : goal.returns-clause-placed
returns-clause-placed g c =
    let gathered : IsGathered c.args.run.fabric c.args.run.nodes.items c.args.run.pumps.items c.close.result = returns-clause-gathered g c in
    λ o began opening holds. placed c.args.run.fabric c.args.run.nodes.items c.args.run.pumps.items c.into_parts-stage.ensures.fabric c.requires c.close.result gathered o began opening holds.shared holds.begun holds.hold holds.can

pub returns-clause-grows : goal.returns-clause-grows
returns-clause-grows g c =
    let gathered : IsGathered c.args.run.fabric c.args.run.nodes.items c.args.run.pumps.items c.close.result = returns-clause-gathered g c in
    λ o began opening holds. goes_on c.args.run.fabric c.args.run.nodes.items c.args.run.pumps.items c.into_parts-stage.ensures.fabric c.requires c.close.result gathered o began opening holds.shared holds.begun holds.hold
