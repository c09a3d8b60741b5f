-- What is gathered of all nodes after their threads are done, with the trees and the links closed.
use Rattle.std.specs.Prelude.{◌≡◌, ℕ, ◌<◌, ◌==◌, ◌&&◌, List, [], ◌∷◌, ◌++◌, length, map, position, slice_get, slice_index_or, Some, is_some, option_to_list}
use Rattle.std.specs.List.{flat_map}
use Rattle.sq_schema.specs.TxnValue.{TxnValue}
use Rattle.sq_moves.specs.declared.status.Status.{Status}
use Rattle.sq_store.specs.StoreValue.{StoreValue}
use Rattle.sq_store.specs.declared.chunk.Note.{Note}
use Rattle.sq_store.specs.ChunkValue.{ChunkValue}
use Rattle.sq_moves.specs.OpeningValue.{OpeningValue}
use Rattle.sq_node_model.specs.Stages.{is_link_in}
use Rattle.sq_shared.specs.declared.view.View.{View}
use Rattle.sq_shared.specs.Rule.{IsTreeOf}
use Rattle.sq_node_model.specs.NodeValue.{ReceiptValue, NodeValue}
use Rattle.sq_node_model.specs.BeganWith.{BeganWith}
use Rattle.sq_node_model.specs.NodeHolds.{NodeHolds}

-- a closed link: the notes of all chunks that were cut for it, and the chunks that were cut and not
-- loaded, both the oldest first
pub record GatheredLink : Type 0 where
  pub src : ℕ
  pub dst : ℕ
  pub notes : List Note
  pub under_way : List ChunkValue

-- the stage that ran, the families by partition, the links, the statuses of the tree nodes by
-- segment, all receipts, and by partition the unanswered jobs
pub record GatheredValue : Type 0 where
  pub stage : ℕ
  pub stores : List StoreValue
  pub links : List GatheredLink
  pub statuses : List (List Status)
  pub receipts : List ReceiptValue
  pub left : List (List TxnValue)

-- there is one link from a partition to another if a range moves there in the stage, and no other
pub record HasEachLink (o : OpeningValue) (i : ℕ) (links : List GatheredLink) : Type 0 where
  pub ends : (src dst : ℕ) → is_some (position (λ link. (link.src == src) && (link.dst == dst)) links) ≡ is_link_in o i src dst
  pub one_each : (j k : ℕ) (one other : GatheredLink) → slice_get links j ≡ Some one → slice_get links k ≡ Some other
      → one.src ≡ other.src → one.dst ≡ other.dst → j ≡ k

-- the link belongs to the nodes at its ends: the source sent what the destination received and the
-- queue held; under way are the chunks of the inbox, the queue and the outbox
pub record IsClosedLink (nodes : List NodeValue) (link : GatheredLink) : Type 0 where
  pub from : NodeValue
  pub from_there : slice_get nodes link.src ≡ Some from
  pub to : NodeValue
  pub to_there : slice_get nodes link.dst ≡ Some to
  pub queue : List ChunkValue
  pub order : from.sent link.dst ≡ to.received link.src ++ queue
  pub notes : link.notes ≡ (from.outs link.dst).notes
  pub way : link.under_way ≡ option_to_list (to.inboxes link.src) ++ (queue ++ option_to_list (from.outs link.dst).outbox)

-- the statuses of a segment are those of a tree with a single seat left, which began and completed
-- what the nodes did
pub record IsClosedTree (nodes : List NodeValue) (statuses : List (List Status)) (seg : ℕ) : Type 0 where
  pub view : View
  pub tree : IsTreeOf (slice_index_or statuses seg []) (view ∷ [])
  pub begun : view.begun ≡ flat_map (λ node. node.begun seg) nodes
  pub completed : view.completed ≡ flat_map (λ node. node.completed seg) nodes

-- this is gathered of these nodes, which are all, in the order of their partitions; the receipts
-- are those so far, followed by theirs
pub record Gathers (o : OpeningValue) (began : BeganWith) (nodes : List NodeValue) (g : GatheredValue) : Type 0 where
  pub stage : g.stage ≡ began.stage
  pub count : length nodes ≡ o.old.parts
  pub parts : (p : ℕ) (node : NodeValue) → slice_get nodes p ≡ Some node → node.part ≡ p
  pub holds : (p : ℕ) (node : NodeValue) → slice_get nodes p ≡ Some node → NodeHolds o began node
  pub stores : g.stores ≡ map (λ node. node.store) nodes
  pub receipts : g.receipts ≡ began.receipts ++ flat_map (λ node. node.receipts) nodes
  pub each_link : HasEachLink o g.stage g.links
  pub links : (i : ℕ) (link : GatheredLink) → slice_get g.links i ≡ Some link → IsClosedLink nodes link
  pub all_statuses : length g.statuses ≡ length o.recon.segments
  pub trees : (seg : ℕ) → seg < length o.recon.segments → IsClosedTree nodes g.statuses seg
