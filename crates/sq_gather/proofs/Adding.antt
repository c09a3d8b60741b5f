-- What nodes left, added one after another.
use Rattle.std.proofs.Common.{◌≡◌, ℕ, zero, suc, ◌+◌, ◌<◌, List, [], ◌∷◌, ◌++◌, length, map, refl, sym, ap, ◌∙◌, subst, append_assoc, append-nil, length-append, arith}
use Rattle.std.specs.Prelude.{slice_get, Some}
use Rattle.std.specs.List.{flat_map}
use Rattle.std.proofs.lemmas.Option.{same_Some}
use Rattle.sq_schema.specs.TxnValue.{TxnValue}
use Rattle.sq_shared.specs.Values.{LinkValue}
use Rattle.sq_shared.specs.Seat.{SeatValue}
use Rattle.sq_node_model.specs.NodeValue.{ReceiptValue}
use Rattle.sq_store.specs.StoreValue.{StoreValue}
use Rattle.sq_node.specs.Ends.{src_of, dst_of}
use Rattle.sq_node.specs.FabricValue.{FabricValue, IsFabric}
use Rattle.sq_node.specs.NodeState.{NodeState, IsNodeOf}
use Rattle.sq_gather.specs.GatheringValue.{GatheringValue, KeepsRoom, IsAddable, HasRoomFor, KeepsCore, AddsNode, AddsNodes}
use Rattle.sq_gather.specs.Gathered.{waiting_at}
use Rattle.sq_gather.proofs.Filling.{AreFilled, ends_apart, filled_more}

pub adds_more : (old mid new : GatheringValue) (nodes : List NodeState) (node : NodeState) → AddsNodes old nodes mid → AddsNode mid node new → AddsNodes old (nodes ++ node ∷ []) new
adds_more old mid new [] node before more = (new, subst (λ (g : GatheringValue). AddsNode g node new) before more, refl)
adds_more old mid new (first ∷ nodes) node before more = (before.0, before.1, adds_more before.0 mid new nodes node before.2 more)

pub ends_kept : (old : GatheringValue) (node : NodeState) (new : GatheringValue) → AddsNode old node new → length new.ends ≡ length old.ends
ends_kept old node new adds = adds.destinations.count ∙ adds.sources.count

-- there is room for the others where there was room for all
pub room_left : (old : GatheringValue) (node : NodeState) (nodes left : List NodeState) (new : GatheringValue) → AddsNode old node new → left ≡ node ∷ nodes → HasRoomFor old left → HasRoomFor new nodes
room_left old node nodes left new adds is room =
    record {
      stores = omega (arith, room.stores, ap length is, ap length adds.stores, length-append old.stores (node.core.store ∷ []), adds.room.stores);
      waiting = omega (arith, room.waiting, ap length is, ap length adds.waiting, length-append old.waiting (node.core.waiting ∷ []), adds.room.waiting);
      posts = omega (arith, room.posts, ap length is, adds.posts, adds.room.posts);
      owners = omega (arith, room.owners, ap length is, ap length adds.owners, length-append old.owners (node.seats ∷ []), adds.room.owners);
    }

-- the result of adding them all
pub record HasAdded (old : GatheringValue) (nodes : List NodeState) (new : GatheringValue) : Type 0 where
  pub kept : (k : ℕ) (node : NodeState) → slice_get nodes k ≡ Some node → KeepsCore node
  pub stores : new.stores ≡ old.stores ++ map (λ (node : NodeState). node.core.store) nodes
  pub waiting : new.waiting ≡ old.waiting ++ waiting_at nodes
  pub receipts : new.receipts ≡ old.receipts ++ flat_map (λ (node : NodeState). node.receipts) nodes
  pub owners : new.owners ≡ old.owners ++ map (λ (node : NodeState). node.seats) nodes
  pub left : new.left ≡ old.left
  pub room : KeepsRoom old.room new.room

kept_at : (first : NodeState) (nodes : List NodeState) → KeepsCore first → ((k : ℕ) (node : NodeState) → slice_get nodes k ≡ Some node → KeepsCore node) → (k : ℕ) (node : NodeState) → slice_get (first ∷ nodes) k ≡ Some node → KeepsCore node
kept_at first nodes kept rest zero node there = subst KeepsCore (same_Some first node there) kept
kept_at first nodes kept rest (suc k) node there = rest k node there

pub has_added : (old : GatheringValue) (nodes : List NodeState) (new : GatheringValue) → AddsNodes old nodes new → HasAdded old nodes new
has_added old [] new adds = record {
  kept = λ k node there. absurd cc;
  waiting = ap (λ (g : GatheringValue). g.waiting) adds ∙ sym (append-nil old.waiting);
  stores = ap (λ (g : GatheringValue). g.stores) adds ∙ sym (append-nil old.stores);
  receipts = ap (λ (g : GatheringValue). g.receipts) adds ∙ sym (append-nil old.receipts);
  owners = ap (λ (g : GatheringValue). g.owners) adds ∙ sym (append-nil old.owners);
  left = ap (λ (g : GatheringValue). g.left) adds;
  room = record {
    stores = omega (arith, ap (λ (g : GatheringValue). g.room.stores) adds);
    waiting = omega (arith, ap (λ (g : GatheringValue). g.room.waiting) adds);
    posts = omega (arith, ap (λ (g : GatheringValue). g.room.posts) adds);
    owners = omega (arith, ap (λ (g : GatheringValue). g.room.owners) adds);
    links = omega (arith, ap (λ (g : GatheringValue). g.room.links) adds);
    trees = ap (λ (g : GatheringValue). g.room.trees) adds;
  };
}
has_added old (node ∷ nodes) new adds =
    let one = adds.1 in
    let rest = has_added adds.0 nodes new adds.2 in
    record {
      kept = λ k other there. kept_at node nodes one.kept rest.kept k other there;
      waiting = rest.waiting ∙ ap (λ (list : List (List TxnValue)). list ++ waiting_at nodes) one.waiting ∙ append_assoc old.waiting (node.core.waiting ∷ []) (waiting_at nodes);
      stores = rest.stores ∙ ap (λ (list : List StoreValue). list ++ map (λ (node : NodeState). node.core.store) nodes) one.stores ∙ append_assoc old.stores (node.core.store ∷ []) (map (λ (node : NodeState). node.core.store) nodes);
      receipts = rest.receipts ∙ ap (λ (list : List ReceiptValue). list ++ flat_map (λ (node : NodeState). node.receipts) nodes) one.receipts
          ∙ append_assoc old.receipts node.receipts (flat_map (λ (node : NodeState). node.receipts) nodes);
      owners = rest.owners ∙ ap (λ (list : List (List SeatValue)). list ++ map (λ (node : NodeState). node.seats) nodes) one.owners ∙ append_assoc old.owners (node.seats ∷ []) (map (λ (node : NodeState). node.seats) nodes);
      left = rest.left ∙ one.left;
      room = record {
        stores = omega (arith, one.room.stores, rest.room.stores);
        waiting = omega (arith, one.room.waiting, rest.room.waiting);
        posts = omega (arith, one.room.posts, rest.room.posts);
        owners = omega (arith, one.room.owners, rest.room.owners);
        links = omega (arith, one.room.links, rest.room.links);
        trees = rest.room.trees ∙ one.room.trees;
      };
    }

-- a node of the run can be added
pub addable : (fabric : FabricValue) → IsFabric fabric → (node : NodeState) → IsNodeOf fabric node → (links : ℕ) → links ≡ length fabric.links → IsAddable links node
addable fabric is node of links count =
    record {
      all_sends = of.all_sends ∙ sym of.parts;
      all_recvs = of.all_recvs ∙ sym of.parts;
      sends = λ other end there. let ends = (of.sends.ends other end there).exists in omega arith;
      sends_apart = ends_apart src_of dst_of fabric.links node.core.part node.sends of.sends;
      recvs = λ other end there. let ends = (of.recvs.ends other end there).exists in omega arith;
      recvs_apart = ends_apart dst_of src_of fabric.links node.core.part node.recvs of.recvs;
    }

-- the ends of all nodes are there once all are added
pub all_filled : (fabric : FabricValue) → IsFabric fabric → ((i : ℕ) (link : LinkValue) → slice_get fabric.links i ≡ Some link → (link.src < fabric.parts) × (link.dst < fabric.parts)) → (done nodes : List NodeState)
    → ((k : ℕ) (node : NodeState) → slice_get nodes k ≡ Some node → IsNodeOf fabric node × (node.core.part ≡ length done + k)) → (old new : GatheringValue) → AddsNodes old nodes new → AreFilled fabric.links done old.ends
    → AreFilled fabric.links (done ++ nodes) new.ends
all_filled fabric is below done [] each old new adds filled =
    subst (λ (list : List NodeState). AreFilled fabric.links list new.ends) (sym (append-nil done)) (subst (λ (g : GatheringValue). AreFilled fabric.links done g.ends) (sym adds) filled)
all_filled fabric is below done (node ∷ nodes) each old new adds filled =
    let one = adds.1 in
    let first = each 0 node refl in
    let more : AreFilled fabric.links (done ++ node ∷ []) adds.0.ends
    = filled_more fabric is node first.0 done (omega (arith, first.1)) below old.ends one.between adds.0.ends filled one.sources one.destinations in
    subst (λ (list : List NodeState). AreFilled fabric.links list new.ends) (append_assoc done (node ∷ []) nodes)
    (all_filled fabric is below (done ++ node ∷ []) nodes
    (λ k other there. let at = each (suc k) other there in (at.0, omega (arith, at.1, length-append done (node ∷ [])))) adds.0 new adds.2 more)
