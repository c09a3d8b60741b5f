-- All nodes and all pumps of a run are added, and its trees and links closed.
use Rattle.std.proofs.Common.{◌≡◌, ℕ, ◌+◌, ◌≤◌, List, [], ◌++◌, length, map, Option, Some, sym, ap, ◌∙◌, subst, ⊎_elim, length-append, arith}
use Rattle.std.specs.Prelude.{slice_get, option_to_list}
use Rattle.std.specs.List.{flat_map}
use Rattle.std.specs.Option.{option_map_or}
use Rattle.std.specs.List.Sorted.{IsPermutation}
use Rattle.std.proofs.lemmas.List.{length-map}
use Rattle.std.proofs.lemmas.List.Sorted.{length_permutation}
use Rattle.std.proofs.lemmas.Option.{same_Some, slice_get_within, get_or_from_slice_get}
use Rattle.atomic_table.specs.Seated.{TableId}
use Rattle.sq_store.specs.ChunkValue.{ChunkValue}
use Rattle.sq_schema.specs.TxnValue.{TxnValue}
use Rattle.sq_store.specs.StoreValue.{StoreValue}
use Rattle.sq_exec.specs.CoreValue.{out_at, inbox_at}
use Rattle.sq_shared.specs.Values.{LinkValue, PassValue}
use Rattle.sq_shared.specs.declared.view.View.{View}
use Rattle.sq_shared.specs.Seat.{SeatValue}
use Rattle.sq_shared.specs.Seats.{AreSeatsOf}
use Rattle.sq_shared.specs.Pump.{PumpValue}
use Rattle.sq_node_model.specs.NodeValue.{ReceiptValue}
use Rattle.sq_node_model.specs.Gathered.{GatheredLink, GatheredValue, IsClosedLink}
use Rattle.sq_node_model.proofs.Lists.{stands_at, map_at, at_map, append_at}
use Rattle.sq_node.specs.Ends.{EndValue, no_link, link_at}
use Rattle.sq_node.specs.FabricValue.{FabricValue, IsFabric, ends_of}
use Rattle.sq_node.specs.NodeState.{NodeState, node_value}
use Rattle.sq_gather.specs.LinkEnds.{LinkEndsValue}
use Rattle.sq_gather.specs.Links.{IsClosed, HaveBothEnds}
use Rattle.sq_gather.specs.Links.{AreClosed as AreClosedLinks}
use Rattle.sq_gather.specs.Trees.{AllAreSeatsOf, AwaitOwners}
use Rattle.sq_gather.specs.Trees.{AreClosed as AreClosedTrees}
use Rattle.sq_gather.specs.GatheringValue.{GatheringValue, IsReserved, IsAddable, HasRoomFor, KeepsCore, AddsNodes, IsClosable}
use Rattle.sq_gather.specs.Left.{BeginWithWaiting}
use Rattle.sq_gather.specs.Gathered.{AreByPart, IsGathered, owners_of, closed_ends, waiting_at}
use Rattle.sq_gather.proofs.ByPart.{AllInOrder, LinksHaveNodes}
use Rattle.sq_gather.proofs.Lists.{maps_same}
use Rattle.sq_gather.proofs.Filling.{HasSource, HasDestination, AreFilled}
use Rattle.sq_gather.proofs.Adding.{HasAdded, has_added, addable, all_filled}

-- there is room for the rest once the receipts of earlier stages are added
pub with_past : (fabric : FabricValue) (nodes : List NodeState) (pumps : ℕ) (none : GatheringValue) → IsReserved [] fabric nodes pumps none → (past : List ReceiptValue) → past ≡ fabric.receipts
    → (new : GatheringValue) → new ≡ record none { receipts = none.receipts ++ past } → IsReserved fabric.receipts fabric nodes pumps new
with_past fabric nodes pumps none reserved past of new is =
    subst (IsReserved fabric.receipts fabric nodes pumps) (sym is)
    (record {
      stores = reserved.stores;
      waiting = reserved.waiting;
      posts = reserved.posts;
      receipts = ap (λ (list : List ReceiptValue). list ++ past) reserved.receipts ∙ of;
      owners = reserved.owners;
      ends = reserved.ends;
      left = reserved.left;
      room = reserved.room;
    })

-- room for nodes is room for them in another order
pub room_in_order : (fabric : FabricValue) (nodes by_part : List NodeState) (pumps : ℕ) (past : List ReceiptValue) (gathering : GatheringValue) → IsPermutation nodes by_part → IsReserved past fabric nodes pumps gathering → IsReserved past fabric by_part pumps gathering
room_in_order fabric nodes by_part pumps past gathering same reserved =
    let many = length_permutation nodes by_part same in
    record {
      stores = reserved.stores;
      waiting = reserved.waiting;
      posts = reserved.posts;
      receipts = reserved.receipts;
      owners = reserved.owners;
      ends = reserved.ends;
      left = reserved.left;
      room = record {
        stores = omega (arith, reserved.room.stores, many);
        waiting = omega (arith, reserved.room.waiting, many);
        posts = omega (arith, reserved.room.posts, many);
        owners = omega (arith, reserved.room.owners, many);
        links = reserved.room.links;
        trees = reserved.room.trees;
      };
    }

module _ (fabric : FabricValue) (nodes : List NodeState) (pumps : List PumpValue) (is : IsFabric fabric) (all : AllInOrder fabric nodes pumps) (none : GatheringValue) (reserved : IsReserved fabric.receipts fabric nodes (length pumps) none) where
  pub each_addable : (part : ℕ) (node : NodeState) → slice_get nodes part ≡ Some node → IsAddable (length none.ends) node
  each_addable part node there = addable fabric is node (all.each_node part node there).0 (length none.ends) reserved.ends.count

  pub room_for_nodes : HasRoomFor none nodes
  room_for_nodes = record {
    stores = omega (arith, reserved.room.stores, ap length reserved.stores);
    waiting = omega (arith, reserved.room.waiting, ap length reserved.waiting);
    posts = omega (arith, reserved.room.posts, reserved.posts);
    owners = omega (arith, reserved.room.owners, ap length reserved.owners);
  }

  none_filled : AreFilled fabric.links [] none.ends
  none_filled = record {
    count = reserved.ends.count;
    room = λ i link left there left_there. omega (arith, ap (λ (e : LinkEndsValue). e.room) (reserved.ends.each i link left there left_there));
    source = λ i link left node there left_there at. absurd (cc at);
    destination = λ i link left node there left_there at. absurd (cc at);
  }

  module _ (added : GatheringValue) (adds : AddsNodes none nodes added) where
    has : HasAdded none nodes added
    has = has_added none nodes added adds

    pub room_for_pumps : length added.owners + length pumps ≤ added.room.owners
    room_for_pumps =
        omega (
          arith,
          reserved.room.owners,
          has.room.owners,
          ap length has.owners,
          length-append none.owners (map (λ (node : NodeState). node.seats) nodes),
          ap length reserved.owners,
          length-map nodes (λ (node : NodeState). node.seats),
        )

    -- what is kept of each node
    pub each_kept : (k : ℕ) (node : NodeState) → slice_get nodes k ≡ Some node → KeepsCore node
    each_kept = has.kept

    module _ (below : LinksHaveNodes fabric) (whole : GatheringValue) (pumped : whole ≡ record added { owners = added.owners ++ map (λ (pump : PumpValue). pump.seats) pumps }) where
      owners_are : whole.owners ≡ owners_of nodes pumps
      owners_are = ap (λ (g : GatheringValue). g.owners) pumped
          ∙ ap (λ (list : List (List SeatValue)). list ++ map (λ (pump : PumpValue). pump.seats) pumps) (has.owners ∙ ap (λ (list : List (List SeatValue)). list ++ map (λ (node : NodeState). node.seats) nodes) reserved.owners)

      filled : AreFilled fabric.links nodes whole.ends
      filled = subst (λ (g : GatheringValue). AreFilled fabric.links nodes g.ends) (sym pumped)
          (all_filled fabric is below [] nodes (λ k node there. (let at = all.each_node k node there in (at.0, omega (arith, at.1)))) none added adds none_filled)

      owners_seats : AllAreSeatsOf fabric.trees whole.owners
      owners_seats i seats there =
          ⊎_elim
          (λ (one : slice_get (map (λ (node : NodeState). node.seats) nodes) i ≡ Some seats).
          let node = map_at (λ (node : NodeState). node.seats) nodes i seats one in
          subst (AreSeatsOf fabric.trees) node.2 (all.each_node i node.0 node.1).0.seats)
          (λ (one : (j : ℕ) × (slice_get (map (λ (pump : PumpValue). pump.seats) pumps) j ≡ Some seats)).
          let pump = map_at (λ (pump : PumpValue). pump.seats) pumps one.0 seats one.1 in
          subst (AreSeatsOf fabric.trees) pump.2 (all.each_pump one.0 pump.0 pump.1).seats)
          (append_at (map (λ (node : NodeState). node.seats) nodes) (map (λ (pump : PumpValue). pump.seats) pumps) i seats (ap (λ (list : List (List SeatValue)). slice_get list i) (sym owners_are) ∙ there))

      seats_given : AwaitOwners (length whole.owners) fabric.seats
      seats_given seg seat there =
          let view = all.seats.each seg seat there in
          omega (
            arith,
            ap (λ (v : View). v.given) view,
            ap (λ (v : View). v.taken) view,
            ap length owners_are,
            length-append (map (λ (node : NodeState). node.seats) nodes) (map (λ (pump : PumpValue). pump.seats) pumps),
            length-map nodes (λ (node : NodeState). node.seats),
            length-map pumps (λ (pump : PumpValue). pump.seats),
          )

      -- the nodes at the two ends of a link, with what they left of it
      record HasNodes (i : ℕ) (link : LinkValue) (left : LinkEndsValue) : Type 0 where
        from : NodeState
        from_there : slice_get nodes link.src ≡ Some from
        source : HasSource from link.dst i left
        to : NodeState
        to_there : slice_get nodes link.dst ≡ Some to
        destination : HasDestination to link.src i left

      has_nodes : (i : ℕ) (link : LinkValue) (left : LinkEndsValue) → slice_get fabric.links i ≡ Some link → slice_get whole.ends i ≡ Some left → HasNodes i link left
      has_nodes i link left there left_there =
          let ends = below i link there in
          let from : (node : NodeState) × (slice_get nodes link.src ≡ Some node) = stands_at nodes link.src (omega (arith, ends.0, all.count)) in
          let to : (node : NodeState) × (slice_get nodes link.dst ≡ Some node) = stands_at nodes link.dst (omega (arith, ends.1, all.count)) in
          record {
            from = from.0;
            from_there = from.1;
            source = filled.source i link left from.0 there left_there from.1;
            to = to.0;
            to_there = to.1;
            destination = filled.destination i link left to.0 there left_there to.1;
          }

      have_ends : HaveBothEnds fabric.links whole.ends
      have_ends = record {
        count = filled.count;
        each = λ i link left there left_there.
            let has = has_nodes i link left there left_there in
            let here : link_at fabric.links i ≡ link = get_or_from_slice_get fabric.links i link no_link there in
            let out = ((all.each_node link.src has.from has.from_there).0.sends.ends link.dst has.source.own.end has.source.own.there).queue in
            let into = ((all.each_node link.dst has.to has.to_there).0.recvs.ends link.src has.destination.own.end has.destination.own.there).queue in
            record {
              sender = has.source.own.end.pass;
              sends = ap (λ (e : LinkEndsValue). e.sender) (sym has.source.is);
              sends_on = out ∙ ap (λ (k : ℕ). (link_at fabric.links k).queue) has.source.own.here ∙ ap (λ (l : LinkValue). l.queue) here;
              receiver = has.destination.own.end.pass;
              receives = ap (λ (e : LinkEndsValue). e.receiver) (sym has.destination.is);
              receives_on = into ∙ ap (λ (k : ℕ). (link_at fabric.links k).queue) has.destination.own.here ∙ ap (λ (l : LinkValue). l.queue) here;
              room = filled.room i link left there left_there;
            };
      }

      -- all can be closed with what the fabric shared
      closable : IsClosable fabric.trees fabric.seats fabric.links whole
      closable = record {
        first_seats = is.seats;
        opened = is.first;
        owners = owners_seats;
        given = seats_given;
        tree_room = ap (λ (g : GatheringValue). g.room.trees) pumped ∙ has.room.trees ∙ reserved.room.trees ∙ sym is.trees;
        ends = have_ends;
        link_room = omega (arith, ap (λ (g : GatheringValue). g.room.links) pumped, has.room.links, reserved.room.links);
        waiting = omega (
          arith,
          ap (λ (g : GatheringValue). length g.waiting) pumped,
          ap length has.waiting,
          length-append none.waiting (waiting_at nodes),
          ap length reserved.waiting,
          length-map nodes (λ (node : NodeState). node.core.waiting),
          all.count,
          ap (λ (g : GatheringValue). g.left) pumped,
          has.left,
          reserved.left,
        );
      }

      pub closable_with : (trees : List TableId) (first : List SeatValue) (links : List LinkValue) → trees ≡ fabric.trees → first ≡ fabric.seats → links ≡ fabric.links → IsClosable trees first links whole
      closable_with trees first links trees_are first_are links_are =
          subst (λ (trees : List TableId). IsClosable trees first links whole) (sym trees_are)
          (subst (λ (first : List SeatValue). IsClosable fabric.trees first links whole) (sym first_are)
          (subst (λ (links : List LinkValue). IsClosable fabric.trees fabric.seats links whole) (sym links_are) closable))

      -- a link is closed with what its nodes left of it
      closed_link : (i : ℕ) (link : LinkValue) (left : LinkEndsValue) (closed : GatheredLink) → HasNodes i link left → IsClosed link left closed → IsClosedLink (map node_value nodes) closed
      closed_link i link left closed has closes =
          let sender : closes.sender ≡ has.source.own.end.pass = same_Some closes.sender has.source.own.end.pass (sym closes.sends ∙ ap (λ (e : LinkEndsValue). e.sender) (sym has.source.is)) in
          let receiver : closes.receiver ≡ has.destination.own.end.pass = same_Some closes.receiver has.destination.own.end.pass (sym closes.receives ∙ ap (λ (e : LinkEndsValue). e.receiver) (sym has.destination.is)) in
          let chunks_of : Option EndValue → List ChunkValue = λ end. option_map_or (λ (e : EndValue). e.pass.chunks) end [] in
          let sent : (node_value has.from).sent link.dst ≡ closes.sender.chunks = ap chunks_of has.source.own.there ∙ ap (λ (pass : PassValue). pass.chunks) (sym sender) in
          let received : (node_value has.to).received link.src ≡ closes.receiver.chunks = ap chunks_of has.destination.own.there ∙ ap (λ (pass : PassValue). pass.chunks) (sym receiver) in
          record {
            from = node_value has.from;
            from_there = ap (slice_get (map node_value nodes)) closes.src ∙ at_map node_value nodes link.src has.from has.from_there;
            to = node_value has.to;
            to_there = ap (slice_get (map node_value nodes)) closes.dst ∙ at_map node_value nodes link.dst has.to has.to_there;
            queue = closes.queue;
            order = ap ((node_value has.from).sent) closes.dst ∙ sent ∙ closes.order ∙ ap (λ (list : List ChunkValue). list ++ closes.queue) (sym received ∙ ap ((node_value has.to).received) (sym closes.src));
            notes = closes.notes ∙ ap (λ (e : LinkEndsValue). e.notes) (sym has.source.is) ∙ ap (λ (dst : ℕ). (out_at has.from.core dst).notes) (sym closes.dst);
            way = closes.way
                ∙ (λ k. option_to_list ((ap (λ (e : LinkEndsValue). e.inbox) (sym has.destination.is) ∙ ap (inbox_at has.to.core) (sym closes.src)) k) ++ (closes.queue ++ option_to_list ((ap (λ (e : LinkEndsValue). e.outbox) (sym has.source.is) ∙ ap (λ (dst : ℕ). (out_at has.from.core dst).outbox) (sym closes.dst)) k)));
          }

      module _ (g : GatheredValue) (stores : g.stores ≡ whole.stores) (receipts : g.receipts ≡ whole.receipts) (left : length g.left ≡ whole.left) (begins : BeginWithWaiting whole.waiting g.left) (stage : g.stage ≡ fabric.stage) (links : AreClosedLinks fabric.links whole.ends g.links) (statuses : AreClosedTrees fabric.seats whole.owners g.statuses) where
        pub is_gathered : (given : List NodeState) → AreByPart given nodes → IsGathered fabric given pumps g
        is_gathered given ordered = record {
          by_part = nodes;
          ordered = ordered;
          stage = stage;
          stores = stores ∙ ap (λ (g : GatheringValue). g.stores) pumped ∙ has.stores ∙ ap (λ (list : List StoreValue). list ++ map (λ (node : NodeState). node.core.store) nodes) reserved.stores;
          receipts = receipts ∙ ap (λ (g : GatheringValue). g.receipts) pumped ∙ has.receipts ∙ ap (λ (list : List ReceiptValue). list ++ flat_map (λ (node : NodeState). node.receipts) nodes) reserved.receipts;
          ends = maps_same closed_ends ends_of g.links fabric.links links.count
              (λ i closed link closed_there there.
              let left : (e : LinkEndsValue) × (slice_get whole.ends i ≡ Some e) = stands_at whole.ends i (let lt = slice_get_within fabric.links i link there in omega (arith, filled.count)) in
              let closes = links.each i link left.0 closed there left.1 closed_there in
              λ k. record { src = closes.src k; dst = closes.dst k });
          links = λ i closed closed_there.
              let lt = slice_get_within g.links i closed closed_there in
              let link : (l : LinkValue) × (slice_get fabric.links i ≡ Some l) = stands_at fabric.links i (omega (arith, links.count)) in
              let left : (e : LinkEndsValue) × (slice_get whole.ends i ≡ Some e) = stands_at whole.ends i (omega (arith, links.count, filled.count)) in
              closed_link i link.0 left.0 closed (has_nodes i link.0 left.0 link.1 left.1) (links.each i link.0 left.0 closed link.1 left.1 closed_there);
          statuses = subst (λ (owners : List (List SeatValue)). AreClosedTrees fabric.seats owners g.statuses) owners_are statuses;
          left = left ∙ ap (λ (g : GatheringValue). g.left) pumped ∙ has.left ∙ reserved.left;
          waiting = subst (λ (waiting : List (List TxnValue)). BeginWithWaiting waiting g.left)
              (ap (λ (g : GatheringValue). g.waiting) pumped ∙ has.waiting ∙ ap (λ (list : List (List TxnValue)). list ++ waiting_at nodes) reserved.waiting)
              begins;
        }
