-- A stage of a run whose workers were driven, and what is gathered of it.
use Rattle.std.proofs.Common.{List, ◌++◌, ◌∙◌, sym, ap}
use Rattle.std.specs.List.{flat_map}
use Rattle.sq_moves.specs.OpeningValue.{OpeningValue}
use Rattle.sq_moves.specs.Opening.{IsOpening}
use Rattle.sq_shared.specs.Pump.{PumpValue}
use Rattle.sq_node_model.specs.NodeValue.{ReceiptValue}
use Rattle.sq_node_model.specs.BeganWith.{BeganWith}
use Rattle.sq_node_model.specs.Gathered.{GatheredValue}
use Rattle.sq_node_model.specs.Placed.{IsPlaced, GoOn}
use Rattle.sq_node.specs.FabricValue.{FabricValue}
use Rattle.sq_node.specs.NodeState.{NodeState}
use Rattle.sq_driver.specs.Nodes.{AllDriven}
use Rattle.sq_driver.specs.Pumps.{AllPumpsDriven}
use Rattle.sq_gather.specs.Gathered.{AreAllOf, InPartOrder, HoldsInStage, IsGathered}
use Rattle.sq_gather.specs.Reopened.{IsRunInStage, AllStay, AllPumpsStay}
use Rattle.sq_gather.proofs.Running.{run_goes_on, holds_in_stage}
use Rattle.sq_gather.proofs.Workers.{each_stays, each_pump_stays, still_in_order, still_all}
use Rattle.sq_driver.specs.StageRunValue.{RanFrom}

module _ (fabric : FabricValue) (old new : List NodeState) (before after : List PumpValue) where
  nodes_stay : AllDriven fabric old new → AllStay fabric old new
  nodes_stay driven = each_stays fabric old new driven.count (λ i d lt. let was = driven.each i d lt in record { part = was.part; of = was.stays; holds = was.holds })

  pumps_stay : AllPumpsDriven fabric before after → AllPumpsStay fabric before after
  pumps_stay driven = each_pump_stays fabric before after driven.count (λ i d lt. let was = driven.each i d lt in record { of = was.stays; claims = was.claims })

  module _ (nodes : AllDriven fabric old new) (pumps : AllPumpsDriven fabric before after) where
    -- all nodes and pumps of a run are its nodes and pumps still
    pub whole_driven : AreAllOf fabric old before → AreAllOf fabric new after
    whole_driven whole = still_all fabric old new before after whole (nodes_stay nodes) (pumps_stay pumps)

    -- they are in the order of their partitions still
    pub order_driven : InPartOrder old → InPartOrder new
    order_driven order = still_in_order fabric old new (nodes_stay nodes) order

    -- it is a run still
    pub run_driven : (o : OpeningValue) (began : BeganWith) → IsOpening o → IsRunInStage o began fabric old before → IsRunInStage o began fabric new after
    run_driven o began is run = run_goes_on o began fabric old new before after is run (nodes_stay nodes) (pumps_stay pumps)

-- what is gathered of a run
module _ (fabric : FabricValue) (nodes : List NodeState) (pumps : List PumpValue) (g : GatheredValue) (gathered : IsGathered fabric nodes pumps g)
    (placed : (o : OpeningValue) (began : BeganWith) → IsOpening o → HoldsInStage o began fabric nodes → IsPlaced o g)
    (grows : (o : OpeningValue) (began : BeganWith) → IsOpening o → HoldsInStage o began fabric nodes → GoOn began g) where
  pub run_gathered : (o : OpeningValue) (began : BeganWith) → IsOpening o → IsRunInStage o began fabric nodes pumps → RanFrom o began g
  run_gathered o began is run =
      let holds = holds_in_stage o began fabric nodes pumps run in
      record {
        stage = gathered.stage ∙ sym run.begun.stage;
        placed = placed o began is holds;
        goes_on = grows o began is holds;
        written = flat_map (λ (node : NodeState). node.receipts) gathered.by_part;
        receipts = gathered.receipts ∙ ap (λ (list : List ReceiptValue). list ++ flat_map (λ (node : NodeState). node.receipts) gathered.by_part) (sym run.begun.receipts);
        all_left = gathered.left ∙ run.shared.parts;
      }
