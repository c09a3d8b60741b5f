-- A node in memory.
use Rattle.std.specs.Prelude.{◌≡◌, ℕ, ◌-◌, ◌<◌, false, List, [], length, slice_get, Option}
use Rattle.std.specs.Option.{option_map_or}
use Rattle.sq_schema.specs.declared.txn.Reply.{Reply}
use Rattle.sq_schema.specs.declared.txn.Reply.TheVariants.{Committed, Aborted}
use Rattle.sq_store.specs.ChunkValue.{ChunkValue}
use Rattle.sq_exec.specs.CoreValue.{CoreValue}
use Rattle.sq_shared.specs.declared.view.View.{View}
use Rattle.sq_shared.specs.View.{fresh}
use Rattle.sq_shared.specs.Seat.{SeatValue}
use Rattle.sq_shared.specs.Seats.{AreSeatsOf}
use Rattle.sq_node_model.specs.NodeValue.{ReceiptValue, NodeAtWork, NodeValue, node_of}
use Rattle.sq_node.specs.FabricValue.{FabricValue}
use Rattle.sq_node.specs.Ends.{EndValue, end_at, AreSendEnds, AreRecvEnds}

-- a partition, its seat at the tree of each segment, its ends of the links to and from each
-- partition, its receipts, and how many claims it has won
pub record NodeState : Type 0 where
  pub core : CoreValue
  pub seats : List SeatValue
  pub sends : List (Option EndValue)
  pub recvs : List (Option EndValue)
  pub receipts : List ReceiptValue
  pub claims : ℕ

-- the node is one of those that the fabric was opened with
pub record IsNodeOf (fabric : FabricValue) (node : NodeState) : Type 0 where
  pub recon : node.core.recon ≡ fabric.recon
  pub stage : node.core.stage ≡ fabric.stage
  pub parts : node.core.plan.parts ≡ fabric.parts
  pub below : node.core.part < fabric.parts
  pub seats : AreSeatsOf fabric.trees node.seats
  pub sends : AreSendEnds fabric.links node.core.part node.sends
  pub recvs : AreRecvEnds fabric.links node.core.part node.recvs
  pub all_sends : length node.sends ≡ fabric.parts
  pub all_recvs : length node.recvs ≡ fabric.parts

-- what each seat has done and seen, by segment
abbrev pub views_of : List SeatValue → ℕ → View
views_of seats seg = option_map_or (λ seat. seat.view) (slice_get seats seg) (fresh false false)

-- what went by each end, by the other partition
abbrev pub passed_by : List (Option EndValue) → ℕ → List ChunkValue
passed_by ends other = option_map_or (λ end. end.pass.chunks) (end_at ends other) []

-- the node, with what its seats and ends did, by segment and partition
abbrev pub at_work : NodeState → NodeAtWork
at_work node = record {
  core = node.core;
  views = views_of node.seats;
  sent = passed_by node.sends;
  received = passed_by node.recvs;
  receipts = node.receipts;
}

-- the node as a value of the model, with what it did by keys
abbrev pub node_value : NodeState → NodeValue
node_value node = node_of (at_work node)

-- how many transactions a log held before one with this reply, if it holds `after` transactions
-- after it
abbrev pub position_before : ℕ → Reply → ℕ
position_before after (Committed answers) = after - 1
position_before after (Aborted at cause) = after
