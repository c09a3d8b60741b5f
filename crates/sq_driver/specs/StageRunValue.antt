-- A stage of a run.
use Rattle.std.specs.Prelude.{◌≡◌, ◌++◌, false, List, [], All, length}
use Rattle.sq_moves.specs.OpeningValue.{OpeningValue}
use Rattle.sq_moves.specs.Opening.{IsOpening}
use Rattle.sq_shared.specs.Pump.{PumpValue}
use Rattle.sq_node_model.specs.NodeValue.{ReceiptValue}
use Rattle.sq_node_model.specs.BeganWith.{BeganWith}
use Rattle.sq_node_model.specs.Gathered.{GatheredValue}
use Rattle.sq_node_model.specs.Placed.{IsPlaced, GoOn}
use Rattle.sq_node.specs.FabricValue.{FabricValue}
use Rattle.sq_node.specs.NodeState.{NodeState}
use Rattle.sq_driver.specs.declared.teller.TellingNode.{TellingNode}
use Rattle.sq_gather.specs.Reopened.{IsRunInStage}
use Rattle.sq_driver.specs.declared.collector.Collector.{Collector}

-- what its workers share, its nodes in the order of their partitions, and its pumps
pub record StageRunValue : Type 0 where
  pub fabric : FabricValue
  pub nodes : List NodeState
  pub pumps : List PumpValue

abbrev pub stage_run_of : FabricValue → List NodeState → List PumpValue → StageRunValue
stage_run_of fabric nodes pumps = record { fabric = fabric; nodes = nodes; pumps = pumps }

-- each teller has collected exactly the receipts that its node wrote, unless it broke off
abbrev pub HaveCollected : List (TellingNode Collector) → Type 0
HaveCollected pairs =
    All (λ pair. pair.teller.broke_off ≡ false → pair.teller.receipts.items ≡ pair.node.receipts) pairs

-- no node has written a receipt
abbrev pub AreUnanswered : List NodeState → Type 0
AreUnanswered nodes = All (λ node. node.receipts ≡ []) nodes

-- it is a run of this opening, in a stage that began with `began`
abbrev pub BeganFrom : OpeningValue → BeganWith → StageRunValue → Type 0
BeganFrom o began run = IsRunInStage o began run.fabric run.nodes run.pumps

-- it is still a run of each opening, and each beginning of its stage, of which it was before
abbrev pub StaysBegun : StageRunValue → StageRunValue → Type 0
StaysBegun old new = (o : OpeningValue) (began : BeganWith) → IsOpening o → BeganFrom o began old → BeganFrom o began new

-- a stage that began with `began` ran, and left `g`: it is placed, each family continues the one
-- that its root key had at the start, and the earlier receipts come before those of the stage
pub record RanFrom (o : OpeningValue) (began : BeganWith) (g : GatheredValue) : Type 0 where
  pub stage : g.stage ≡ began.stage
  pub placed : IsPlaced o g
  pub goes_on : GoOn began g
  pub written : List ReceiptValue
  pub receipts : g.receipts ≡ began.receipts ++ written
  pub all_left : length g.left ≡ o.old.parts
