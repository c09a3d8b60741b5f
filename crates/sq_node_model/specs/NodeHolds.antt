-- What a node keeps between any two of its steps. Each part of what holds is a type of its pieces
-- alone, so that it is the same type after a step that leaves them alone.
use Rattle.std.specs.Prelude.{ℕ, ◌<◌, Contains}
use Rattle.sq_moves.specs.OpeningValue.{OpeningValue}
use Rattle.sq_node_model.specs.NodeValue.{NodeValue}
use Rattle.sq_node_model.specs.BeganWith.{BeganWith}
use Rattle.sq_node_model.specs.Chunks.{cut_to, loaded_from, HasCut, HasLoaded, HasLast}
use Rattle.sq_node_model.specs.BegunHolds.{BegunHolds}
use Rattle.sq_node_model.specs.OutHolds.{OutHolds}
use Rattle.sq_node_model.specs.InHolds.{InHolds}
use Rattle.sq_node_model.specs.LoadedHolds.{LoadedHolds}
use Rattle.sq_node_model.specs.FamiliesHold.{StoreHolds, FamiliesHold, ReceiptsHold}

pub record NodeHolds (o : OpeningValue) (began : BeganWith) (node : NodeValue) : Type 0 where
  pub below : node.part < o.old.parts
  pub begun : BegunHolds o began.stage node.part node.begun node.given_up
  pub outs : (dst : ℕ) → OutHolds o began node.part node.begun dst (node.outs dst).notes (node.outs dst).work (cut_to node dst)
  pub ins : (src : ℕ) → InHolds o began.stage node.part src (node.received src) (loaded_from node src) (node.inboxes src)
  pub loaded : LoadedHolds node.loaded (HasLoaded node)
  -- a completed tree node has its last chunk loaded
  pub completed : (seg n pull : ℕ) → Contains (node.completed seg) (n, pull) → HasLast (HasLoaded node) seg n
  pub store : StoreHolds o began node.part (HasCut node) (HasLoaded node) node.store
  pub families : FamiliesHold o began node.part (HasCut node) (HasLoaded node) node.store
  pub receipts : ReceiptsHold o began node.part (HasCut node) (HasLoaded node) node.store node.receipts
