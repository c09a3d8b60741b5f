-- What is gathered so far, and the room for the rest.
use Rattle.std.specs.Prelude.{◌≡◌, ℕ, ◌+◌, ◌≤◌, List, [], ◌∷◌, ◌++◌, length, slice_get, Some}
use Rattle.atomic_table.specs.Seated.{TableId}
use Rattle.sq_schema.specs.TxnValue.{TxnValue}
use Rattle.sq_store.specs.StoreValue.{StoreValue}
use Rattle.sq_exec.specs.Waiting.{Arrival}
use Rattle.sq_exec.specs.Kept.{IsCore}
use Rattle.sq_shared.specs.Values.{LinkValue}
use Rattle.sq_shared.specs.Seat.{SeatValue}
use Rattle.sq_node_model.specs.NodeValue.{ReceiptValue}
use Rattle.sq_shared.specs.Seats.{AreSeatsOf}
use Rattle.sq_node.specs.FabricValue.{FabricValue, AreFirst}
use Rattle.sq_node.specs.NodeState.{NodeState}
use Rattle.sq_gather.specs.LinkEnds.{LinkEndsValue}
use Rattle.sq_gather.specs.Links.{no_ends, HaveBothEnds}
use Rattle.sq_gather.specs.Trees.{AllAreSeatsOf, AwaitOwners}
use Rattle.sq_gather.specs.Ends.{AreApart, AreAmong, SourcesPut, DestinationsPut}

-- the room for stores, lists of waiting jobs, lists of jobs to forward, owners of seats and links,
-- and the number of trees
pub record RoomValue : Type 0 where
  pub stores : ℕ
  pub waiting : ℕ
  pub posts : ℕ
  pub owners : ℕ
  pub links : ℕ
  pub trees : ℕ

-- the families and the waiting jobs by partition, the number of nodes whose jobs to forward are
-- here, the receipts, the seats by owner, what the ends of each link left of it, and the number of
-- partitions with a list of jobs
pub record GatheringValue : Type 0 where
  pub stores : List StoreValue
  pub waiting : List (List TxnValue)
  pub posts : ℕ
  pub receipts : List ReceiptValue
  pub owners : List (List SeatValue)
  pub ends : List LinkEndsValue
  pub left : ℕ
  pub room : RoomValue

-- there is room for all of a run with these nodes and `pumps` pumps
pub record IsRoomFor (fabric : FabricValue) (nodes : List NodeState) (pumps : ℕ) (room : RoomValue) : Type 0 where
  pub stores : length nodes ≤ room.stores
  pub waiting : length nodes ≤ room.waiting
  pub posts : length nodes ≤ room.posts
  pub owners : length nodes + pumps ≤ room.owners
  pub links : length fabric.links ≤ room.links
  pub trees : room.trees ≡ length fabric.recon.segments

-- there is room for each link, and neither of its ends is set
pub record AreReserved (links : List LinkValue) (ends : List LinkEndsValue) : Type 0 where
  pub count : length ends ≡ length links
  pub each : (i : ℕ) (link : LinkValue) (left : LinkEndsValue) → slice_get links i ≡ Some link
      → slice_get ends i ≡ Some left → left ≡ no_ends (link.capacity + 2)

-- only the receipts `past` are gathered, and there is room for everything
pub record IsReserved (past : List ReceiptValue) (fabric : FabricValue) (nodes : List NodeState) (pumps : ℕ)
    (gathering : GatheringValue) : Type 0 where
  pub stores : gathering.stores ≡ []
  pub waiting : gathering.waiting ≡ []
  pub posts : gathering.posts ≡ 0
  pub receipts : gathering.receipts ≡ past
  pub owners : gathering.owners ≡ []
  pub ends : AreReserved fabric.links gathering.ends
  pub left : gathering.left ≡ fabric.parts
  pub room : IsRoomFor fabric nodes pumps gathering.room

-- there is at least as much room as before
pub record KeepsRoom (old new : RoomValue) : Type 0 where
  pub stores : old.stores ≤ new.stores
  pub waiting : old.waiting ≤ new.waiting
  pub posts : old.posts ≤ new.posts
  pub owners : old.owners ≤ new.owners
  pub links : old.links ≤ new.links
  pub trees : new.trees ≡ old.trees

-- a node has an end for each partition, each of one of `links` links, and no two of the same link
pub record IsAddable (links : ℕ) (node : NodeState) : Type 0 where
  pub all_sends : length node.sends ≡ node.core.plan.parts
  pub all_recvs : length node.recvs ≡ node.core.plan.parts
  pub sends : AreAmong links node.sends
  pub sends_apart : AreApart node.sends
  pub recvs : AreAmong links node.recvs
  pub recvs_apart : AreApart node.recvs

-- there is room for what these nodes left
pub record HasRoomFor (gathering : GatheringValue) (nodes : List NodeState) : Type 0 where
  pub stores : length gathering.stores + length nodes ≤ gathering.room.stores
  pub waiting : length gathering.waiting + length nodes ≤ gathering.room.waiting
  pub posts : gathering.posts + length nodes ≤ gathering.room.posts
  pub owners : length gathering.owners + length nodes ≤ gathering.room.owners

-- the invariant of a node's partition
abbrev pub KeepsCore : NodeState → Type 0
KeepsCore node = (arrivals : List Arrival) × IsCore node.core arrivals

-- what a node left is added
pub record AddsNode (old : GatheringValue) (node : NodeState) (new : GatheringValue) : Type 0 where
  pub kept : KeepsCore node
  pub stores : new.stores ≡ old.stores ++ node.core.store ∷ []
  pub waiting : new.waiting ≡ old.waiting ++ node.core.waiting ∷ []
  pub posts : new.posts ≡ old.posts + 1
  pub receipts : new.receipts ≡ old.receipts ++ node.receipts
  pub owners : new.owners ≡ old.owners ++ node.seats ∷ []
  pub between : List LinkEndsValue
  pub sources : SourcesPut node.sends node.core.outs 0 old.ends between
  pub destinations : DestinationsPut node.recvs node.core.inboxes 0 between new.ends
  pub left : new.left ≡ old.left
  pub room : KeepsRoom old.room new.room

-- what these nodes left is added, one after another
abbrev pub AddsNodes : GatheringValue → List NodeState → GatheringValue → Type 0
AddsNodes old [] new = new ≡ old
AddsNodes old (node ∷ nodes) new = (between : GatheringValue) × AddsNode old node between × AddsNodes between nodes new

-- these trees and links can be closed: the trees' first seats await the owners' seats, each link
-- has both of its ends, there is room for everything, and each partition where jobs waited has a
-- list of jobs
pub record IsClosable (trees : List TableId) (first : List SeatValue) (links : List LinkValue) (gathering : GatheringValue) : Type 0 where
  pub first_seats : AreSeatsOf trees first
  pub opened : AreFirst first
  pub owners : AllAreSeatsOf trees gathering.owners
  pub given : AwaitOwners (length gathering.owners) first
  pub tree_room : gathering.room.trees ≡ length trees
  pub ends : HaveBothEnds links gathering.ends
  pub link_room : length links ≤ gathering.room.links
  pub waiting : length gathering.waiting ≤ gathering.left
