-- What the nodes left of the links, node by node.
use Rattle.std.proofs.Common.{◌≡◌, ℕ, ◌+◌, ◌<◌, ◌≤◌, List, [], ◌∷◌, ◌++◌, length, Option, Some, None, refl, sym, ap, ◌∙◌, subst, ⊎_elim, inl, inr, arith}
use Rattle.std.specs.Prelude.{map, ◌⊎◌, ◌==◌, slice_get, slice_index_or, option_map, position}
use Rattle.std.proofs.Math.Bool.{and_comm}
use Rattle.std.proofs.lemmas.Option.{same_Some, slice_get_within, slice_get-get_or}
use Rattle.sq_exec.specs.OutLink.{new_out_link}
use Rattle.sq_shared.specs.Values.{LinkValue}
use Rattle.sq_node_model.proofs.Lists.{stands_at}
use Rattle.sq_node_model.proofs.Members.{push_stood}
use Rattle.sq_node.specs.Ends.{EndValue, no_link, link_at, link_between, src_of, dst_of, end_at, AreEnds}
use Rattle.sq_node.specs.FabricValue.{FabricValue, IsFabric, ends_of}
use Rattle.sq_node.specs.NodeState.{NodeState, IsNodeOf}
use Rattle.sq_node.proofs.Bridges.{stands_below}
use Rattle.sq_node.proofs.Taken.{found_link}
use Rattle.sq_gather.specs.LinkEnds.{LinkEndsValue}
use Rattle.sq_gather.specs.Ends.{WasPut, HavePut, AreApart, SourcesPut, DestinationsPut, with_source, with_destination}
use Rattle.sq_moves.proofs.LinksFrom.{stands_from}
use Rattle.sq_gather.proofs.Staged.{ranges_in, as_links}

-- a node's end for the other partition is among its ends, and it is of this link
pub record StandsFor (ends : List (Option EndValue)) (other i : ℕ) : Type 0 where
  pub end : EndValue
  pub there : end_at ends other ≡ Some end
  pub here : end.link ≡ i

-- a node's end of a link is there, with what is beside it: to put it once more changes nothing
pub record HasEnd {Y : Type 0} (put : LinkEndsValue → EndValue → Y → LinkEndsValue) (ends : List (Option EndValue)) (beside : List Y) (none : Y) (other i : ℕ) (left : LinkEndsValue) : Type 0 where
  pub own : StandsFor ends other i
  pub is : put left own.end (slice_index_or beside other none) ≡ left

-- the node's end of the link to this partition is there, and its end of the link from it
abbrev pub HasSource : NodeState → ℕ → ℕ → LinkEndsValue → Type 0
HasSource node dst i left = HasEnd with_source node.sends node.core.outs new_out_link dst i left

abbrev pub HasDestination : NodeState → ℕ → ℕ → LinkEndsValue → Type 0
HasDestination node src i left = HasEnd with_destination node.recvs node.core.inboxes None src i left

-- the ends of these nodes are there, each where its link is
abbrev pub HaveEnds : (LinkValue → ℕ) → (LinkValue → ℕ) → (NodeState → ℕ → ℕ → LinkEndsValue → Type 0) → List LinkValue → List NodeState → List LinkEndsValue → Type 0
HaveEnds near far Has links nodes ends =
    (i : ℕ) (link : LinkValue) (left : LinkEndsValue) (node : NodeState) → slice_get links i ≡ Some link → slice_get ends i ≡ Some left → slice_get nodes (near link) ≡ Some node → Has node (far link) i left

-- those on both sides, and the room of each link
pub record AreFilled (links : List LinkValue) (nodes : List NodeState) (ends : List LinkEndsValue) : Type 0 where
  pub count : length ends ≡ length links
  pub room : (i : ℕ) (link : LinkValue) (left : LinkEndsValue) → slice_get links i ≡ Some link → slice_get ends i ≡ Some left → link.capacity + 2 ≤ left.room
  pub source : HaveEnds src_of dst_of HasSource links nodes ends
  pub destination : HaveEnds dst_of src_of HasDestination links nodes ends

end_of : (ends : List (Option EndValue)) (other i : ℕ) → option_map (λ (e : EndValue). e.link) (end_at ends other) ≡ Some i → StandsFor ends other i
end_of ends other i is = by (end_at ends other) refl is
  where
    by : (found : Option EndValue) → end_at ends other ≡ found → option_map (λ (e : EndValue). e.link) found ≡ Some i → StandsFor ends other i
    by None there is = absurd cc
    by (Some end) there is = record { end = end; there = there; here = same_Some end.link i is }

-- the ends of a link after a node's ends are put in place
came_of : {Y : Type 0} {put : LinkEndsValue → EndValue → Y → LinkEndsValue} {ends : List (Option EndValue)} {beside : List Y} {none : Y} {old new : List LinkEndsValue} (i : ℕ) (now : LinkEndsValue) → HavePut put ends beside none 0 old new → slice_get new i ≡ Some now
    → (was : LinkEndsValue) × (slice_get old i ≡ Some was) × (WasPut put ends beside none 0 i was now ⊎ (now ≡ was))
came_of {put = put} {ends = ends} {beside = beside} {none = none} {old = old} {new = new} i now puts there =
    let low = slice_get_within new i now there in
    let was : (e : LinkEndsValue) × (slice_get old i ≡ Some e) = stands_at old i (omega (arith, puts.count)) in
    let found = puts.each i was.0 was.1 in
    let is : found.0 ≡ now = same_Some found.0 now (sym found.1 ∙ there) in
    (was.0, was.1, subst (λ (e : LinkEndsValue). WasPut put ends beside none 0 i was.0 e ⊎ (e ≡ was.0)) is found.2)

-- a link's room stays where a node's ends are put
room_stays : {Y : Type 0} {put : LinkEndsValue → EndValue → Y → LinkEndsValue} {ends : List (Option EndValue)} {beside : List Y} {none : Y} {i : ℕ} {was now : LinkEndsValue} → ((e : LinkEndsValue) (end : EndValue) (y : Y) → (put e end y).room ≡ e.room)
    → WasPut put ends beside none 0 i was now ⊎ (now ≡ was) → now.room ≡ was.room
room_stays {beside = beside} {none = none} {was = was} alike (inl put) = ap (λ (e : LinkEndsValue). e.room) put.is ∙ alike was put.end (slice_index_or beside put.other none)
room_stays alike (inr same) = ap (λ (e : LinkEndsValue). e.room) same

-- a node's ends on one side of its links
module _ (near far : LinkValue → ℕ) (links : List LinkValue) (part : ℕ) (ends : List (Option EndValue)) (are : AreEnds near far links part ends) where
  -- each is of a link between the node's partition and the end's
  end_over : (other : ℕ) (end : EndValue) → end_at ends other ≡ Some end → (link : LinkValue) × (slice_get links end.link ≡ Some link) × (near link ≡ part) × (far link ≡ other)
  end_over other end there =
      let between : link_between near far links part other ≡ Some end.link = sym (are.which other (stands_below ends other end there)) ∙ ap (option_map (λ (e : EndValue). e.link)) there in
      let found = found_link near far links part other end.link between in
      (link_at links end.link, slice_get-get_or links end.link no_link found.0, found.1, found.2)

  -- no two are of one link, since a link gives the place of its end
  pub ends_apart : AreApart ends
  ends_apart a b one other one_there other_there same =
      let first = end_over a one one_there in
      let second = end_over b other other_there in
      sym first.3 ∙ ap far (same_Some first.0 second.0 (sym first.1 ∙ ap (slice_get links) same ∙ second.1)) ∙ second.3

  -- what was put of them is of a link of the node's partition
  put_near : {Y : Type 0} {put : LinkEndsValue → EndValue → Y → LinkEndsValue} {beside : List Y} {none : Y} {i : ℕ} {was now : LinkEndsValue} (link : LinkValue) → slice_get links i ≡ Some link → WasPut put ends beside none 0 i was now → near link ≡ part
  put_near link there put =
      let found = end_over put.other put.end put.there in
      ap near (same_Some link found.0 (sym there ∙ ap (slice_get links) (sym put.here) ∙ found.1)) ∙ found.2

  -- the end of a link of the node's partition is there
  end_there : (i : ℕ) (link : LinkValue) → near link ≡ part → far link < length ends → link_between near far links (near link) (far link) ≡ Some i → StandsFor ends (far link) i
  end_there i link own below stands =
      end_of ends (far link) i (are.which (far link) below ∙ ap (λ (p : ℕ). link_between near far links p (far link)) (sym own) ∙ stands)

-- the ends of nodes on one side
module _ {Y : Type 0} (put : LinkEndsValue → EndValue → Y → LinkEndsValue) (none : Y) (own_of : NodeState → List (Option EndValue)) (beside_of : NodeState → List Y) (near far : LinkValue → ℕ) where
  abbrev Has : NodeState → ℕ → ℕ → LinkEndsValue → Type 0
  Has node other i left = HasEnd put (own_of node) (beside_of node) none other i left

  -- what is put on the other side leaves them there
  module _ {Z : Type 0} (turned : LinkEndsValue → EndValue → Z → LinkEndsValue) (commutes : (e : LinkEndsValue) (end : EndValue) (y : Y) (back : EndValue) (z : Z) → put (turned e back z) end y ≡ turned (put e end y) back z)
      {ends : List (Option EndValue)} {beside : List Z} {no_z : Z} where
    stays : (node : NodeState) (other i : ℕ) (was now : LinkEndsValue) → Has node other i was → WasPut turned ends beside no_z 0 i was now ⊎ (now ≡ was) → Has node other i now
    stays node other i was now has (inl by) =
        let end = has.own.end in
        let y = slice_index_or (beside_of node) other none in
        let z = slice_index_or beside by.other no_z in
        record { own = has.own; is = ap (λ (e : LinkEndsValue). put e end y) by.is ∙ commutes was end y by.end z ∙ ap (λ (e : LinkEndsValue). turned e by.end z) has.is ∙ sym by.is }
    stays node other i was now has (inr same) = subst (Has node other i) (sym same) has

    have_still : (links : List LinkValue) (nodes : List NodeState) (old new : List LinkEndsValue) → HavePut turned ends beside no_z 0 old new → HaveEnds near far Has links nodes old → HaveEnds near far Has links nodes new
    have_still links nodes old new puts have i link left node there left_there at =
        let came = came_of i left puts left_there in
        stays node (far link) i came.0 left (have i link came.0 node there came.1 at) came.2

  -- one more node's ends are there once they are put
  have_more : ((e : LinkEndsValue) (end : EndValue) (y : Y) → put (put e end y) end y ≡ put e end y) → (links : List LinkValue) (nodes : List NodeState) (node : NodeState) → node.core.part ≡ length nodes → AreEnds near far links node.core.part (own_of node)
      → ((i : ℕ) (link : LinkValue) → slice_get links i ≡ Some link → near link ≡ node.core.part → StandsFor (own_of node) (far link) i)
      → (old new : List LinkEndsValue) → HavePut put (own_of node) (beside_of node) none 0 old new → HaveEnds near far Has links nodes old → HaveEnds near far Has links (nodes ++ node ∷ []) new
  have_more again links nodes node next are stands old new puts have i link left other there left_there at =
      let came = came_of i left puts left_there in
      ⊎_elim
      (λ (before : slice_get nodes (near link) ≡ Some other).
      let low = slice_get_within nodes (near link) other before in
      ⊎_elim
      (λ (by : WasPut put (own_of node) (beside_of node) none 0 i came.0 left). absurd (let here = put_near near far links node.core.part (own_of node) are link there by in omega arith))
      (λ (same : left ≡ came.0). subst (Has other (far link) i) (sym same) (have i link came.0 other there came.1 before))
      came.2)
      (λ (last : (near link ≡ length nodes) × (node ≡ other)).
      let own = stands i link there (last.0 ∙ sym next) in
      let y = slice_index_or (beside_of node) (far link) none in
      let put_there = puts.all (far link) own.end came.0 (omega arith) own.there (ap (slice_get old) own.here ∙ came.1) in
      let is : left ≡ put came.0 own.end y = same_Some left (put came.0 own.end y) (sym left_there ∙ ap (slice_get new) (sym own.here) ∙ put_there) in
      let mine : Has node (far link) i left = record { own = own; is = ap (λ (e : LinkEndsValue). put e own.end y) is ∙ again came.0 own.end y ∙ sym is } in
      subst (λ (n : NodeState). Has n (far link) i left) last.1 mine)
      (push_stood nodes node (near link) other at)

module _ (fabric : FabricValue) (is : IsFabric fabric) (node : NodeState) (of : IsNodeOf fabric node) where
  -- a link is found by its partitions, from where it leads and from where it comes
  leads : (i : ℕ) (link : LinkValue) → slice_get fabric.links i ≡ Some link → link_between src_of dst_of fabric.links link.src link.dst ≡ Some i
  leads i link there = stands_from ends_of (ranges_in fabric.recon fabric.stage) fabric.links no_link (as_links fabric.recon fabric.stage (map ends_of fabric.links) is.links) i link there

  comes : (i : ℕ) (link : LinkValue) → slice_get fabric.links i ≡ Some link → link_between dst_of src_of fabric.links link.dst link.src ≡ Some i
  comes i link there = (λ k. position (λ (l : LinkValue). and_comm (l.dst == link.dst) (l.src == link.src) k) fabric.links) ∙ leads i link there

  -- one more node's ends are there
  module _ (nodes : List NodeState) (next : node.core.part ≡ length nodes) (below : (i : ℕ) (link : LinkValue) → slice_get fabric.links i ≡ Some link → (link.src < fabric.parts) × (link.dst < fabric.parts)) (old between new : List LinkEndsValue)
      (so_far : AreFilled fabric.links nodes old) (sources : SourcesPut node.sends node.core.outs 0 old between) (destinations : DestinationsPut node.recvs node.core.inboxes 0 between new) where
    send_stands : (i : ℕ) (link : LinkValue) → slice_get fabric.links i ≡ Some link → link.src ≡ node.core.part → StandsFor node.sends link.dst i
    send_stands i link there own =
        let low = (below i link there).1 in
        end_there src_of dst_of fabric.links node.core.part node.sends of.sends i link own (let count = of.all_sends in omega arith) (leads i link there)

    recv_stands : (i : ℕ) (link : LinkValue) → slice_get fabric.links i ≡ Some link → link.dst ≡ node.core.part → StandsFor node.recvs link.src i
    recv_stands i link there own =
        let low = (below i link there).0 in
        end_there dst_of src_of fabric.links node.core.part node.recvs of.recvs i link own (let count = of.all_recvs in omega arith) (comes i link there)

    pub filled_more : AreFilled fabric.links (nodes ++ node ∷ []) new
    filled_more =
        let sends = λ (n : NodeState). n.sends in
        let outs = λ (n : NodeState). n.core.outs in
        let recvs = λ (n : NodeState). n.recvs in
        let inboxes = λ (n : NodeState). n.core.inboxes in
        record {
          count = destinations.count ∙ sources.count ∙ so_far.count;
          room = λ i link left there left_there.
              let to = came_of i left destinations left_there in
              let from = came_of i to.0 sources to.1 in
              omega (arith, so_far.room i link from.0 there from.1, room_stays (λ e end out. refl) from.2, room_stays (λ e end inbox. refl) to.2);
          source = have_still with_source new_out_link sends outs src_of dst_of with_destination (λ e end y back z. refl) fabric.links (nodes ++ node ∷ []) between new destinations
              (have_more with_source new_out_link sends outs src_of dst_of (λ e end y. refl) fabric.links nodes node next of.sends send_stands old between sources so_far.source);
          destination = have_more with_destination None recvs inboxes dst_of src_of (λ e end y. refl) fabric.links nodes node next of.recvs recv_stands between new destinations
              (have_still with_destination None recvs inboxes dst_of src_of with_source (λ e end y back z. refl) fabric.links nodes old between sources so_far.destination);
        }
