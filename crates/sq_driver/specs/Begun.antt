-- The workers that a stage of a run begins with.
use Rattle.std.specs.Prelude.{ℕ, List}
use Rattle.sq_moves.specs.OpeningValue.{OpeningValue}
use Rattle.sq_shared.specs.Pump.{PumpValue}
use Rattle.sq_store.specs.StoreValue.{StoreValue}
use Rattle.sq_node_model.specs.NodeValue.{ReceiptValue}
use Rattle.sq_node.specs.FabricValue.{FabricValue}
use Rattle.sq_node.specs.NodeState.{NodeState}
use Rattle.sq_node.specs.Opened.{IsReopened}

-- some stage of a run, of any opening, begins with these nodes and pumps
pub record BeginStage (fabric : FabricValue) (nodes : List NodeState) (pumps : List PumpValue) : Type 0 where
  pub o : OpeningValue
  pub stage : ℕ
  pub stores : List StoreValue
  pub receipts : List ReceiptValue
  pub count : ℕ
  pub reopened : IsReopened o stage stores receipts count fabric nodes pumps
