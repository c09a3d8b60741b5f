-- The invariant of a node, whatever the other threads do.
use Rattle.std.specs.Prelude.{ℕ}
use Rattle.sq_moves.specs.OpeningValue.{OpeningValue}
use Rattle.sq_moves.specs.Opening.{IsOpening}
use Rattle.sq_node_model.specs.BeganWith.{BeganWith}
use Rattle.sq_node_model.specs.NodeHolds.{NodeHolds}
use Rattle.sq_node_model.specs.Cores.{IsCoreOf, HasNoneToLoad}
use Rattle.sq_node.specs.declared.stepped.Stepped.{Stepped}
use Rattle.sq_node.specs.FabricValue.{FabricValue}
use Rattle.sq_node.specs.NodeState.{NodeState, IsNodeOf, node_value}

-- the partition fits the opening and the stage, and the invariant of nodes (`NodeHolds`) holds of
-- the node
pub record HoldsUnder (o : OpeningValue) (began : BeganWith) (node : NodeState) : Type 0 where
  pub core : IsCoreOf o began.stage node.core
  pub holds : NodeHolds o began (node_value node)

-- the invariant still holds, under each opening, and each beginning of a stage, under which it did
abbrev pub KeepsAll : NodeState → NodeState → Type 0
KeepsAll old new = (o : OpeningValue) (began : BeganWith) → IsOpening o → HoldsUnder o began old → HoldsUnder o began new

-- a step did this; the node still belongs to the fabric, and the invariant still holds of it
abbrev pub DoesAndKeeps : FabricValue → (NodeState → Stepped → NodeState → Type 0) → NodeState → Stepped → NodeState → Type 0
DoesAndKeeps fabric did old answer new = record { step : did old answer new; of : IsNodeOf fabric new; holds : KeepsAll old new }

-- under each opening, and each beginning of a stage, under which the invariant holds of the node:
-- each received chunk that isn't loaded doesn't belong here, or covers a root key that was loaded
abbrev pub HasNoneLoadable : NodeState → Type 0
HasNoneLoadable node =
    (o : OpeningValue) (began : BeganWith) → IsOpening o → HoldsUnder o began node
    → (src : ℕ) → HasNoneToLoad o began.stage (node_value node) src
