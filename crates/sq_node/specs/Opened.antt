-- What a run opens with.
use Rattle.std.specs.Prelude.{◌≡◌, ◌≢◌, ℕ, ◌+◌, ◌<◌, true, false, List, [], length, map, slice_get, slice_index_or, Option, Some}
use Rattle.std.specs.FinMap.{empty}
use Rattle.std.specs.List.{range_with_len}
use Rattle.atomic_table.specs.Seated.{TableId}
use Rattle.sq_moves.specs.ReconValue.{ReconValue, stages}
use Rattle.sq_moves.specs.OpeningValue.{OpeningValue}
use Rattle.sq_shared.specs.Values.{LinkValue}
use Rattle.sq_shared.specs.declared.view.View.{View}
use Rattle.sq_shared.specs.View.{fresh, gave}
use Rattle.sq_shared.specs.Seat.{SeatValue}
use Rattle.sq_store.specs.StoreValue.{StoreValue}
use Rattle.sq_exec.specs.CoreValue.{CoreValue}
use Rattle.sq_exec.specs.Opened.{opened_part, HasOwned}
use Rattle.sq_shared.specs.Seats.{AreSeatsOf}
use Rattle.sq_shared.specs.Wins.{no_wins}
use Rattle.sq_shared.specs.Pump.{PumpValue, stage_round}
use Rattle.sq_node_model.specs.NodeValue.{ReceiptValue}
use Rattle.sq_node_model.specs.BeganWith.{BeganWith, CanBegin, first_began}
use Rattle.sq_node_model.specs.Cores.{staged_core, OpensWith}
use Rattle.sq_node.specs.Ends.{EndValue, link_at, end_at, AreEnds}
use Rattle.sq_node.specs.FabricValue.{FabricValue, HasBegun, ends_of, AreStageLinks}
use Rattle.sq_node.specs.NodeState.{NodeState, IsNodeOf}
use Rattle.sq_node.specs.Holds.{HoldsUnder}

-- a partition with the families in `store` as stage `stage` begins, whose move has started
abbrev pub running_core : OpeningValue → ℕ → ℕ → StoreValue → CoreValue
running_core o stage part store = record (staged_core o stage part store) { started = true }

-- the families of each partition before the move
abbrev pub opened_stores : OpeningValue → List StoreValue
opened_stores o = map (λ part. (opened_part o part).store) (range_with_len 0 o.old.parts)

-- each partition then has the families of the root keys that it owns
abbrev pub HaveOwned : OpeningValue → Type 0
HaveOwned o = (part : ℕ) → part < o.old.parts → HasOwned o part (opened_part o part).store

-- the view of a tree's first seat that has given out `given` seats
abbrev pub first_view : ℕ → View
first_view given = record (fresh true false) { given = given }

-- the first seats of these trees, which have each given out `given` seats
pub record AreFirstSeats (given : ℕ) (trees : List TableId) (seats : List SeatValue) : Type 0 where
  pub of : AreSeatsOf trees seats
  pub each : (seg : ℕ) (seat : SeatValue) → slice_get seats seg ≡ Some seat → seat.view ≡ first_view given

-- seats at these trees that have done and seen nothing
pub record AreNewSeats (trees : List TableId) (seats : List SeatValue) : Type 0 where
  pub of : AreSeatsOf trees seats
  pub each : (seg : ℕ) (seat : SeatValue) → slice_get seats seg ≡ Some seat → seat.view ≡ fresh false false

-- an end of a link over which nothing went
abbrev pub new_end : List LinkValue → ℕ → EndValue
new_end links i = record { link = i; pass = record { queue = (link_at links i).queue; chunks = [] } }

-- each seat gave out one more
pub record GaveEach (old new : List SeatValue) : Type 0 where
  pub count : length new ≡ length old
  pub each : (seg : ℕ) (before : SeatValue) → slice_get old seg ≡ Some before
      → slice_get new seg ≡ Some (record { tree = before.tree; view = gave before.view })

-- the first seats of a run's trees gave out `count` more seats
abbrev pub GivesOut : ℕ → FabricValue → FabricValue → Type 0
GivesOut count old new =
    (given : ℕ) → AreFirstSeats given old.trees old.seats → AreFirstSeats (given + count) new.trees new.seats

-- each link holds `capacity` chunks
abbrev pub HaveCapacity : ℕ → List LinkValue → Type 0
HaveCapacity capacity links = (i : ℕ) (link : LinkValue) → slice_get links i ≡ Some link → link.capacity ≡ capacity

-- new links for a stage of a move, with room for `capacity` chunks each
pub record AreNewLinks (recon : ReconValue) (stage capacity : ℕ) (links : List LinkValue) : Type 0 where
  pub ends : AreStageLinks recon stage (map ends_of links)
  pub holds : HaveCapacity capacity links

-- one end of each link, at the place of its link
pub record HasAllEnds (links : List LinkValue) (ends : List (Option EndValue)) : Type 0 where
  pub count : length ends ≡ length links
  pub each : (i : ℕ) → i < length links → end_at ends i ≡ Some (new_end links i)

-- the ends of a partition's links are here, each at the place of its link
pub record HasEnds (near : LinkValue → ℕ) (links : List LinkValue) (ends : List (Option EndValue)) (part : ℕ) : Type 0 where
  pub count : length ends ≡ length links
  pub each : (i : ℕ) → i < length links → near (link_at links i) ≡ part → end_at ends i ≡ Some (new_end links i)

-- the ends of other partitions' links stay
pub record LeavesEnds (near : LinkValue → ℕ) (links : List LinkValue) (old : List (Option EndValue)) (part : ℕ)
    (new : List (Option EndValue)) : Type 0 where
  pub count : length new ≡ length old
  pub each : (i : ℕ) → near (link_at links i) ≢ part → end_at new i ≡ end_at old i

-- nothing went by these ends
abbrev pub HavePassedNothing : List (Option EndValue) → Type 0
HavePassedNothing ends = (other : ℕ) (end : EndValue) → end_at ends other ≡ Some end → end.pass.chunks ≡ []

-- a partition's ends of links over which nothing went, one for each of `parts` partitions
abbrev pub AreNewEnds : (LinkValue → ℕ) → (LinkValue → ℕ) → List LinkValue → ℕ → ℕ → List (Option EndValue) → Type 0
AreNewEnds near far links parts part ends = AreEnds near far links part ends × HavePassedNothing ends × (length ends ≡ parts)

-- a node with this partition, to which nothing has happened
pub record IsNewNode (fabric : FabricValue) (started : CoreValue) (node : NodeState) : Type 0 where
  pub of : IsNodeOf fabric node
  pub core : node.core ≡ started
  pub seats : AreNewSeats fabric.trees node.seats
  pub sends : HavePassedNothing node.sends
  pub recvs : HavePassedNothing node.recvs
  pub receipts : node.receipts ≡ []
  pub claims : node.claims ≡ 0

-- what a run shares fits an opening: what moves, how many partitions there are, and how many chunks
-- a link holds
pub record IsFabricOf (o : OpeningValue) (fabric : FabricValue) : Type 0 where
  pub recon : fabric.recon ≡ o.recon
  pub parts : fabric.parts ≡ o.old.parts
  pub capacity : HaveCapacity o.config.capacity fabric.links

-- for each of `stores` the node of its partition, to which nothing has happened
pub record AreNewNodes (o : OpeningValue) (fabric : FabricValue) (stores : List StoreValue) (nodes : List NodeState) : Type 0 where
  pub all : length nodes ≡ length stores
  pub each : (part : ℕ) (node : NodeState) → slice_get nodes part ≡ Some node
      → IsNewNode fabric (running_core o fabric.stage part (slice_index_or stores part empty)) node

-- for each of `stores` the node of its partition, to which nothing has happened; the first
-- partition is `first`
pub record AreNewNodesFrom (o : OpeningValue) (fabric : FabricValue) (first : ℕ) (stores : List StoreValue) (nodes : List NodeState) : Type 0 where
  pub all : length nodes ≡ length stores
  pub each : (at : ℕ) (node : NodeState) → slice_get nodes at ≡ Some node
      → IsNewNode fabric (running_core o fabric.stage (first + at) (slice_index_or stores at empty)) node

-- the invariant of nodes holds of each node
abbrev pub AllHoldUnder : OpeningValue → BeganWith → List NodeState → Type 0
AllHoldUnder o began nodes = (part : ℕ) (node : NodeState) → slice_get nodes part ≡ Some node → HoldsUnder o began node

-- each partition opens with the families that its root keys had at the start
abbrev pub AllOpenWith : OpeningValue → BeganWith → List StoreValue → Type 0
AllOpenWith o began stores = (part : ℕ) (store : StoreValue) → slice_get stores part ≡ Some store → OpensWith o began part store

-- the invariant of nodes holds of each node under each beginning of the stage that has the run's
-- receipts and these families, if a stage can begin with it
abbrev pub AllHoldAsBegun : OpeningValue → FabricValue → List StoreValue → List NodeState → Type 0
AllHoldAsBegun o fabric stores nodes =
    (began : BeganWith) → HasBegun began fabric → CanBegin o began → AllOpenWith o began stores → AllHoldUnder o began nodes

-- the opening has this stage, and as many partitions as there are stores and lists of jobs that
-- were left
abbrev pub HasStageFor : OpeningValue → ℕ → ℕ → ℕ → Type 0
HasStageFor o stage stores left = (stores ≡ o.old.parts) × (left ≡ o.old.parts) × (stage < stages o.recon)

-- the pump `number`, to which nothing has happened: its round has the segments of the running stage
pub record IsNewPump (fabric : FabricValue) (number : ℕ) (pump : PumpValue) : Type 0 where
  pub numbered : pump.number ≡ number
  pub wins : pump.wins ≡ no_wins
  pub seats : AreNewSeats fabric.trees pump.seats
  pub round : pump.round ≡ stage_round fabric.recon fabric.stage (length pump.seats)

-- `count` pumps, to which nothing has happened
pub record AreNewPumps (fabric : FabricValue) (count : ℕ) (pumps : List PumpValue) : Type 0 where
  pub all : length pumps ≡ count
  pub each : (number : ℕ) (pump : PumpValue) → slice_get pumps number ≡ Some pump → IsNewPump fabric number pump

-- a stage of a run begins with a node for each partition, which has the families in its store, with
-- the receipts of earlier stages and with `count` pumps, and all seats are handed out
pub record IsReopened (o : OpeningValue) (i : ℕ) (stores : List StoreValue) (told : List ReceiptValue) (count : ℕ)
    (fabric : FabricValue) (nodes : List NodeState) (pumps : List PumpValue) : Type 0 where
  pub shared : IsFabricOf o fabric
  pub stage : fabric.stage ≡ i
  pub receipts : fabric.receipts ≡ told
  pub seats : AreFirstSeats (o.old.parts + count) fabric.trees fabric.seats
  pub each_node : AreNewNodes o fabric stores nodes
  pub each_pump : AreNewPumps fabric count pumps

-- a run opens in its first stage with a node for each partition, of which the invariant of nodes
-- holds, and with `count` pumps, and all seats are handed out
pub record IsOpened (o : OpeningValue) (count : ℕ) (fabric : FabricValue) (nodes : List NodeState) (pumps : List PumpValue) : Type 0 where
  pub shared : IsFabricOf o fabric
  pub begun : HasBegun (first_began o) fabric
  pub seats : AreFirstSeats (o.old.parts + count) fabric.trees fabric.seats
  pub each_node : AreNewNodes o fabric (opened_stores o) nodes
  pub each_pump : AreNewPumps fabric count pumps
  pub hold : AllHoldUnder o (first_began o) nodes
