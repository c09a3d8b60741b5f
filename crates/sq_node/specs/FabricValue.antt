-- What the nodes of a run share.
use Rattle.std.specs.Prelude.{◌≡◌, ◌↔◌, ℕ, ◌≤◌, Bool, true, ◌==◌, ◌&&◌, List, length, map, slice_get, Some, Contains}
use Rattle.std.specs.List.Sorted.{IsStrictlySortedBy}
use Rattle.atomic_table.specs.Seated.{TableId}
use Rattle.sq_moves.specs.declared.recon.Link.{Link}
use Rattle.sq_moves.specs.declared.segment.TheConstants.{SEGMENT_LIMIT}
use Rattle.sq_moves.specs.ReconValue.{ReconValue, is_link, stage_on, link_cmp}
use Rattle.sq_shared.specs.Values.{LinkValue}
use Rattle.sq_shared.specs.Seat.{SeatValue}
use Rattle.sq_shared.specs.Seats.{AreSeatsOf}
use Rattle.sq_node_model.specs.NodeValue.{ReceiptValue}
use Rattle.sq_node_model.specs.BeganWith.{BeganWith}

-- the reconfiguration, the stage that runs, the number of partitions, for each segment its tree and
-- the seat that the tree was opened with, the links, and the receipts of earlier stages
pub record FabricValue : Type 0 where
  pub recon : ReconValue
  pub stage : ℕ
  pub parts : ℕ
  pub trees : List TableId
  pub seats : List SeatValue
  pub links : List LinkValue
  pub receipts : List ReceiptValue

-- the stage began with `began`: it is the stage of the run, and the receipts so far are the run's
pub record HasBegun (began : BeganWith) (fabric : FabricValue) : Type 0 where
  pub stage : began.stage ≡ fabric.stage
  pub receipts : began.receipts ≡ fabric.receipts

abbrev pub ends_of : LinkValue → Link
ends_of link = record { src = link.src; dst = link.dst }

-- the seats are those that their trees were opened with
abbrev pub AreFirst : List SeatValue → Type 0
AreFirst seats = (seg : ℕ) (seat : SeatValue) → slice_get seats seg ≡ Some seat → seat.view.first ≡ true

-- keys move along the link in this stage
abbrev pub runs_along : ReconValue → ℕ → Link → Bool
runs_along recon stage link =
    is_link recon.ranges link.src link.dst && (stage_on recon link.src link.dst == stage)

-- exactly the links along which keys move in this stage, in strictly rising order
pub record AreStageLinks (recon : ReconValue) (stage : ℕ) (links : List Link) : Type 0 where
  pub rising : IsStrictlySortedBy link_cmp links
  pub all : (link : Link) → Contains links link ↔ (runs_along recon stage link ≡ true)

-- there are at most SEGMENT_LIMIT segments, each has a tree, and each link of the stage exists
pub record IsFabric (fabric : FabricValue) : Type 0 where
  pub few : length fabric.recon.segments ≤ SEGMENT_LIMIT
  pub trees : length fabric.trees ≡ length fabric.recon.segments
  pub seats : AreSeatsOf fabric.trees fabric.seats
  pub first : AreFirst fabric.seats
  pub links : AreStageLinks fabric.recon fabric.stage (map ends_of fabric.links)
