-- An engine as a value.
use Rattle.std.specs.Prelude.{◌≡◌, Bool, true, false, List, ◌++◌}
use Rattle.std.specs.List.{flat_map}
use Rattle.sq_moves.specs.OpeningValue.{OpeningValue}
use Rattle.sq_shared.specs.Pump.{PumpValue}
use Rattle.sq_node_model.specs.NodeValue.{ReceiptValue}
use Rattle.sq_node_model.specs.Gathered.{GatheredValue}
use Rattle.sq_node_model.specs.Folded.{folded_opening}
use Rattle.sq_node.specs.FabricValue.{FabricValue}
use Rattle.sq_node.specs.NodeState.{NodeState}
use Rattle.sq_engine.specs.declared.at.At.{At}
use Rattle.sq_engine.specs.declared.at.At.TheVariants as place
use Rattle.sq_engine.specs.Open.{OpenJobsValue}

-- a run: what its workers share, its nodes and its pumps
pub record RunValue : Type 0 where
  pub fabric : FabricValue
  pub nodes : List NodeState
  pub pumps : List PumpValue

abbrev pub run_value : FabricValue → List NodeState → List PumpValue → RunValue
run_value fabric nodes pumps = record { fabric = fabric; nodes = nodes; pumps = pumps }

-- where an engine is: in an epoch; between two, with what the last one left, and perhaps with a
-- move that is due; or in a call that changes it
pub data AtValue : Type 0 where
  Running : (run : RunValue) → AtValue
  Between : (gathered : GatheredValue) → (is_due : Bool) → AtValue
  Changing : AtValue

abbrev pub at_value : At → AtValue
at_value (place.Running run) = Running (run_value run.fabric run.nodes.items run.pumps.items)
at_value (place.Between gathered is_due) = Between gathered is_due
at_value place.Changing = Changing

-- an engine: the opening that it opened with, the opening in force, the open jobs with all events,
-- and where it is
pub record EngineValue : Type 0 where
  pub first : OpeningValue
  pub opening : OpeningValue
  pub jobs : OpenJobsValue
  pub at : AtValue

-- the opening in force has the rows of the first one, whatever rows `kept` has, the one in memory
abbrev pub engine_value : OpeningValue → OpeningValue → OpenJobsValue → AtValue → EngineValue
engine_value first kept jobs at =
    record { first = first; opening = folded_opening kept first.table; jobs = jobs; at = at }

-- the receipts that a run has written so far, with those of earlier epochs
abbrev pub receipts_of : RunValue → List ReceiptValue
receipts_of run = run.fabric.receipts ++ flat_map (λ (node : NodeState). node.receipts) run.nodes

-- no epoch runs, and no move is due
abbrev pub IsEnded : AtValue → Type 0
IsEnded at = (gathered : GatheredValue) × (at ≡ Between gathered false)

-- the move that follows what was gathered is due
abbrev pub IsMadeDue : AtValue → AtValue → Type 0
IsMadeDue old new = (gathered : GatheredValue) × (old ≡ Between gathered false) × (new ≡ Between gathered true)
