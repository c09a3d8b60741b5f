-- Re-exports the definitions of this crate that contracts of other crates cite. It declares
-- nothing.
pub use Rattle.sq_node.specs.FabricValue.{FabricValue, HasBegun, AreFirst, IsFabric}
pub use Rattle.sq_node.specs.NodeState.{NodeState, IsNodeOf}
pub use Rattle.sq_node.specs.Opened.{IsFabricOf, IsReopened, IsOpened, AllHoldAsBegun}
pub use Rattle.sq_node.specs.Holds.{HoldsUnder}
