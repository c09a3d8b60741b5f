-- The arguments of the gathering of a run, and its result.
use Rattle.std.specs.Prelude.{◌≡◌, ℕ, ◌+◌, List, [], ◌++◌, length, map, slice_get, Some}
use Rattle.std.specs.List.{flat_map}
use Rattle.std.specs.List.Sorted.{IsPermutation}
use Rattle.sq_schema.specs.TxnValue.{TxnValue}
use Rattle.sq_moves.specs.declared.recon.Link.{Link}
use Rattle.sq_moves.specs.OpeningValue.{OpeningValue}
use Rattle.sq_shared.specs.Seat.{SeatValue}
use Rattle.sq_shared.specs.Seats.{AreSeatsOf}
use Rattle.sq_shared.specs.Pump.{PumpValue}
use Rattle.sq_node_model.specs.BeganWith.{BeganWith, CanBegin}
use Rattle.sq_node_model.specs.NodeHolds.{NodeHolds}
use Rattle.sq_node_model.specs.Gathered.{GatheredLink, GatheredValue, IsClosedLink}
use Rattle.sq_node.specs.FabricValue.{FabricValue, HasBegun, ends_of}
use Rattle.sq_node.specs.NodeState.{NodeState, IsNodeOf, views_of, node_value}
use Rattle.sq_node.specs.Opened.{AreFirstSeats, IsFabricOf}
use Rattle.sq_gather.specs.Trees.{AreClosed}
use Rattle.sq_gather.specs.Left.{BeginWithWaiting}

-- the pump belongs to the run, and its seats began and completed nothing
pub record IsPumpOf (fabric : FabricValue) (pump : PumpValue) : Type 0 where
  pub seats : AreSeatsOf fabric.trees pump.seats
  pub begun : (seg : ℕ) → (views_of pump.seats seg).begun ≡ []
  pub completed : (seg : ℕ) → (views_of pump.seats seg).completed ≡ []

-- no two nodes belong to the same partition
abbrev pub PartsDiffer : List NodeState → Type 0
PartsDiffer nodes =
    (i j : ℕ) (one other : NodeState) → slice_get nodes i ≡ Some one → slice_get nodes j ≡ Some other
    → one.core.part ≡ other.core.part → i ≡ j

-- these are all nodes of the run and all its pumps, each once, in any order: there is a node for
-- each partition, and as many seats of each tree were given out as there are nodes and pumps
pub record AreAllOf (fabric : FabricValue) (nodes : List NodeState) (pumps : List PumpValue) : Type 0 where
  pub seats : AreFirstSeats (length nodes + length pumps) fabric.trees fabric.seats
  pub count : length nodes ≡ fabric.parts
  pub apart : PartsDiffer nodes
  pub each_node : (i : ℕ) (node : NodeState) → slice_get nodes i ≡ Some node → IsNodeOf fabric node
  pub each_pump : (i : ℕ) (pump : PumpValue) → slice_get pumps i ≡ Some pump → IsPumpOf fabric pump

-- the nodes are in the order of their partitions
abbrev pub InPartOrder : List NodeState → Type 0
InPartOrder nodes = (part : ℕ) (node : NodeState) → slice_get nodes part ≡ Some node → node.core.part ≡ part

-- `by_part` are the nodes, in the order of their partitions
pub record AreByPart (nodes by_part : List NodeState) : Type 0 where
  pub same : IsPermutation nodes by_part
  pub each : InPartOrder by_part

-- the seats of the nodes and of the pumps, by owner
abbrev pub owners_of : List NodeState → List PumpValue → List (List SeatValue)
owners_of nodes pumps = map (λ node. node.seats) nodes ++ map (λ pump. pump.seats) pumps

abbrev pub closed_ends : GatheredLink → Link
closed_ends link = record { src = link.src; dst = link.dst }

-- the jobs that wait at each of these nodes
abbrev pub waiting_at : List NodeState → List (List TxnValue)
waiting_at nodes = map (λ node. node.core.waiting) nodes

-- what is gathered of these nodes and pumps: the stage of the run; the families of the nodes, in
-- the order of their partitions; the receipts of earlier stages and then those of the nodes; the
-- links, each with what its two nodes and its queue left of it; the statuses that all seats
-- together made; and for each partition a list of jobs, which begins with those that waited there
pub record IsGathered (fabric : FabricValue) (nodes : List NodeState) (pumps : List PumpValue) (g : GatheredValue) : Type 0 where
  pub by_part : List NodeState
  pub ordered : AreByPart nodes by_part
  pub stage : g.stage ≡ fabric.stage
  pub stores : g.stores ≡ map (λ node. node.core.store) by_part
  pub receipts : g.receipts ≡ fabric.receipts ++ flat_map (λ node. node.receipts) by_part
  pub ends : map closed_ends g.links ≡ map ends_of fabric.links
  pub links : (i : ℕ) (link : GatheredLink) → slice_get g.links i ≡ Some link → IsClosedLink (map node_value by_part) link
  pub statuses : AreClosed fabric.seats (owners_of by_part pumps) g.statuses
  pub left : length g.left ≡ fabric.parts
  pub waiting : BeginWithWaiting (waiting_at by_part) g.left

-- the invariant of nodes holds of each node
abbrev pub AllHold : OpeningValue → BeganWith → List NodeState → Type 0
AllHold o began nodes = (part : ℕ) (node : NodeState) → slice_get nodes part ≡ Some node → NodeHolds o began (node_value node)

-- the stage of a run could begin with `began`, what the run shares fits the opening, and the
-- invariant of nodes holds of each node
pub record HoldsInStage (o : OpeningValue) (began : BeganWith) (fabric : FabricValue) (nodes : List NodeState) : Type 0 where
  pub shared : IsFabricOf o fabric
  pub begun : HasBegun began fabric
  pub can : CanBegin o began
  pub hold : AllHold o began nodes
