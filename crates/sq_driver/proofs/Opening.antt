-- The nodes and the pumps that a run, or a stage of it, opens with.
use Rattle.std.proofs.Common.{◌≡◌, ℕ, List, get_or, Some}
use Rattle.std.specs.Prelude.{All, slice_get}
use Rattle.std.proofs.lemmas.Option.{slice_get-get_or}
use Rattle.sq_moves.specs.OpeningValue.{OpeningValue}
use Rattle.sq_shared.specs.Pump.{PumpValue}
use Rattle.sq_store.specs.StoreValue.{StoreValue}
use Rattle.sq_node_model.specs.BeganWith.{first_began}
use Rattle.sq_node.specs.FabricValue.{FabricValue}
use Rattle.sq_node.specs.NodeState.{NodeState, IsNodeOf}
use Rattle.sq_node.specs.Holds.{HoldsUnder}
use Rattle.sq_node.specs.Opened.{AreNewNodes, AreNewPumps, IsOpened}
use Rattle.sq_driver.specs.Pumps.{HasAllSeats}

-- what holds of each element by its place holds of all
all_of : {X : Type 0} (P : X → Type 0) (xs : List X) → ((i : ℕ) (x : X) → slice_get xs i ≡ Some x → P x) → All P xs
all_of P xs each = λ i d within. each i (get_or xs i d) (slice_get-get_or xs i d within)

-- new nodes and new pumps are those of the fabric
pub new_nodes : (o : OpeningValue) (fabric : FabricValue) (stores : List StoreValue) (nodes : List NodeState) → AreNewNodes o fabric stores nodes → All (IsNodeOf fabric) nodes
new_nodes o fabric stores nodes are = all_of (IsNodeOf fabric) nodes (λ part node there. (are.each part node there).of)

pub new_pumps : (fabric : FabricValue) (count : ℕ) (pumps : List PumpValue) → AreNewPumps fabric count pumps → All (HasAllSeats fabric) pumps
new_pumps fabric count pumps are = all_of (HasAllSeats fabric) pumps (λ number pump there. (are.each number pump there).seats.of)

-- what a node keeps holds of each node of a run that opens
pub opened_hold : (o : OpeningValue) (count : ℕ) (fabric : FabricValue) (nodes : List NodeState) (pumps : List PumpValue) → IsOpened o count fabric nodes pumps → All (HoldsUnder o (first_began o)) nodes
opened_hold o count fabric nodes pumps opened = all_of (HoldsUnder o (first_began o)) nodes opened.hold
