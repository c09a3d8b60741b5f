-- The workers of an epoch.
use Rattle.std.specs.Prelude.{All}
use Rattle.sq_node.specs.NodeState.{IsNodeOf}
use Rattle.sq_driver.specs.Told.{AllDrivenTelling}
use Rattle.sq_driver.specs.Pumps.{HasAllSeats, AllPumpsDriven}
use Rattle.sq_driver.specs.Sent.{SendsOrBreaksOff}
use Rattle.sq_node.specs.FabricValue.{FabricValue}
use Rattle.sq_engine.specs.declared.crew.Crew.{Crew}

-- the workers belong to the fabric
pub record IsCrewOf (fabric : FabricValue) (crew : Crew) : Type 0 where
  pub nodes : All (λ pair. IsNodeOf fabric pair.node) crew.pairs.items
  pub pumps : All (HasAllSeats fabric) crew.pumps.items

-- the workers were driven, and the tellers were given what the nodes wrote
pub record IsDriven (fabric : FabricValue) (old new : Crew) : Type 0 where
  pub nodes : AllDrivenTelling SendsOrBreaksOff fabric old.pairs.items new.pairs.items
  pub pumps : AllPumpsDriven fabric old.pumps.items new.pumps.items
