-- Runs, and how they continue from one stage to the next.
use Rattle.std.specs.Prelude.{◌≡◌, ℕ, List, length, slice_get, Some}
use Rattle.sq_moves.specs.OpeningValue.{OpeningValue}
use Rattle.sq_moves.specs.Opening.{IsOpening}
use Rattle.sq_shared.specs.Seats.{AreSeatsOf, OnlyClaimed}
use Rattle.sq_shared.specs.Pump.{PumpValue}
use Rattle.sq_node_model.specs.BeganWith.{BeganWith, CanBegin}
use Rattle.sq_node_model.specs.Gathered.{GatheredValue}
use Rattle.sq_node_model.specs.Placed.{IsPlaced}
use Rattle.sq_node_model.specs.Next.{IsStageDone, IsNextMove, next_began, onward_began}
use Rattle.sq_node.specs.FabricValue.{FabricValue, IsFabric, HasBegun}
use Rattle.sq_node.specs.NodeState.{NodeState, IsNodeOf}
use Rattle.sq_node.specs.Holds.{KeepsAll}
use Rattle.sq_node.specs.Opened.{IsFabricOf, IsOpened, AllHoldUnder}
use Rattle.sq_gather.specs.Gathered.{AreAllOf}

-- a run is in a stage that began with `began`: what it shares fits the opening, the stage could
-- begin like this, these are all nodes and all pumps of the run, and the invariant of nodes holds
-- of each node
pub record IsRunInStage (o : OpeningValue) (began : BeganWith) (fabric : FabricValue) (nodes : List NodeState)
    (pumps : List PumpValue) : Type 0 where
  pub shared : IsFabricOf o fabric
  pub begun : HasBegun began fabric
  pub can : CanBegin o began
  pub all : AreAllOf fabric nodes pumps
  pub hold : AllHoldUnder o began nodes

-- what a run is opened from, and what is opened, with `count` pumps
pub record OpensRun (o : OpeningValue) (count : ℕ) (fabric : FabricValue) (nodes : List NodeState)
    (pumps : List PumpValue) : Type 0 where
  pub opening : IsOpening o
  pub whole : IsFabric fabric
  pub opened : IsOpened o count fabric nodes pumps

-- a run stays one in its stage, under each opening and each beginning under which it was one: `old`
-- and `before` were its nodes and pumps, and `new` and `after` are now
abbrev pub StaysInStage : FabricValue → List NodeState → List PumpValue → List NodeState → List PumpValue → Type 0
StaysInStage fabric old before new after =
    (o : OpeningValue) (began : BeganWith) → IsOpening o → IsRunInStage o began fabric old before
    → IsRunInStage o began fabric new after

-- this is a run in the stage after the gathered one, if that is placed and its segments are
-- complete
abbrev pub IsNextStageOf : OpeningValue → GatheredValue → FabricValue → List NodeState → List PumpValue → Type 0
IsNextStageOf o g fabric nodes pumps =
    IsPlaced o g → IsStageDone o g → IsRunInStage o (next_began o g) fabric nodes pumps

-- this is a run in the first stage of a move that follows the gathered one, if that is placed and
-- its segments are complete
abbrev pub IsFirstStageAfter : OpeningValue → GatheredValue → FabricValue → List NodeState → List PumpValue → Type 0
IsFirstStageAfter next g fabric nodes pumps =
    (o : OpeningValue) → IsOpening o → IsPlaced o g → IsStageDone o g → IsNextMove o g next
    → IsRunInStage next (onward_began o g) fabric nodes pumps

-- a node still belongs to the same partition and to the run, and the invariant of nodes still holds
-- of it
pub record Stays (fabric : FabricValue) (old new : NodeState) : Type 0 where
  pub part : new.core.part ≡ old.core.part
  pub of : IsNodeOf fabric new
  pub holds : KeepsAll old new

-- each node was one before, and stays
pub record AllStay (fabric : FabricValue) (old new : List NodeState) : Type 0 where
  pub count : length new ≡ length old
  pub each : (part : ℕ) (node : NodeState) → slice_get new part ≡ Some node
      → (was : NodeState) × (slice_get old part ≡ Some was) × Stays fabric was node

-- a pump still belongs to the run, and its seats began and completed nothing more
pub record PumpStays (fabric : FabricValue) (old new : PumpValue) : Type 0 where
  pub of : AreSeatsOf fabric.trees new.seats
  pub claims : OnlyClaimed old.seats new.seats

-- each pump was one before, and stays
pub record AllPumpsStay (fabric : FabricValue) (old new : List PumpValue) : Type 0 where
  pub count : length new ≡ length old
  pub each : (i : ℕ) (pump : PumpValue) → slice_get new i ≡ Some pump
      → (was : PumpValue) × (slice_get old i ≡ Some was) × PumpStays fabric was pump
