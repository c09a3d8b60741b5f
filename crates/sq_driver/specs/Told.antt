-- How nodes change that are driven with tellers.
use Rattle.std.specs.Prelude.{◌≡◌, Bool, true, List, [], ◌∷◌, ◌++◌, map}
use Rattle.sq_node_model.specs.NodeValue.{ReceiptValue}
use Rattle.sq_node.specs.FabricValue.{FabricValue}
use Rattle.sq_node.specs.NodeState.{NodeState}
use Rattle.sq_driver.specs.declared.teller.TellingNode.{TellingNode}
use Rattle.sq_driver.specs.Ways.{EachDriven}
use Rattle.sq_driver.specs.Nodes.{Driven}

-- a teller was given these receipts, each once, one after another
abbrev pub TellsEach : {X : Type 0} → (X → ReceiptValue → X → Type 0)
    → X → List ReceiptValue → X → Type 0
TellsEach tells first [] last = last ≡ first
TellsEach {X} tells first (receipt ∷ more) last =
    (next : X) × tells first receipt next × TellsEach tells next more last

-- the receipts of a node grew by some, and its teller was given exactly those, each once, in order
pub record HasTold {X : Type 0} (tells : X → ReceiptValue → X → Type 0)
    (old : List ReceiptValue) (before : X) (new : List ReceiptValue) (after : X) : Type 0 where
  pub more : List ReceiptValue
  pub written : new ≡ old ++ more
  pub told : TellsEach tells before more after

-- a teller that hasn't broken off after a receipt has appended it to its list, and had not broken
-- off before
abbrev pub ListsEach : {X : Type 0} → (X → ReceiptValue → X → Type 0)
    → (X → List ReceiptValue) → (X → Bool) → Type 0
ListsEach {X} tells told goes_on =
    (before after : X) (receipt : ReceiptValue) → tells before receipt after → goes_on after ≡ true
    → (goes_on before ≡ true) × (told after ≡ told before ++ receipt ∷ [])

-- one list of receipts grew by the same receipts as another
abbrev pub GrewAlike : List ReceiptValue → List ReceiptValue
    → List ReceiptValue → List ReceiptValue → Type 0
GrewAlike old before new after =
    (more : List ReceiptValue) × (new ≡ old ++ more) × (after ≡ before ++ more)

-- the list of a teller that hasn't broken off grew by exactly the receipts that its node wrote
abbrev pub ListsWhatIsWritten : {X : Type 0} → (X → ReceiptValue → X → Type 0)
    → (X → List ReceiptValue) → (X → Bool) → Type 0
ListsWhatIsWritten {X} tells told goes_on =
    (old new : List ReceiptValue) (before after : X) → HasTold tells old before new after
    → goes_on after ≡ true → GrewAlike old (told before) new (told after)

-- a node was driven, and its teller was given what it wrote
pub record DrivenAndTold {X : Type 0} (tells : X → ReceiptValue → X → Type 0) (fabric : FabricValue)
    (old : NodeState) (before : X) (new : NodeState) (after : X) : Type 0 where
  pub driven : Driven fabric old new
  pub told : HasTold tells old.receipts before new.receipts after

-- the same of a node with its teller
abbrev pub DrivenTelling : {X : Type 0} → (X → ReceiptValue → X → Type 0)
    → FabricValue → TellingNode X → TellingNode X → Type 0
DrivenTelling tells fabric old new =
    DrivenAndTold tells fabric old.node old.teller new.node new.teller

-- the nodes without their tellers
abbrev pub nodes_of : {X : Type 0} → List (TellingNode X) → List NodeState
nodes_of {X} pairs = map (λ (pair : TellingNode X). pair.node) pairs

-- each node was driven, and its teller was given what it wrote
abbrev pub AllDrivenTelling : {X : Type 0} → (X → ReceiptValue → X → Type 0)
    → FabricValue → List (TellingNode X) → List (TellingNode X) → Type 0
AllDrivenTelling tells fabric old new = EachDriven (DrivenTelling tells fabric) old new
