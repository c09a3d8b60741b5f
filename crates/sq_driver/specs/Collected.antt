-- What is collected of a node.
use Rattle.std.specs.Prelude.{◌≡◌, true, false, List, [], ◌∷◌, ◌++◌}
use Rattle.sq_node_model.specs.NodeValue.{ReceiptValue}
use Rattle.sq_driver.specs.Told.{GrewAlike}
use Rattle.sq_driver.specs.declared.collector.Collector.{Collector}

-- a teller added the receipt after the others; or it broke off, then or before
pub record CollectsOrBreaksOff (old : Collector) (receipt : ReceiptValue) (new : Collector) : Type 0 where
  pub adds : new.broke_off ≡ false
      → (old.broke_off ≡ false) × (new.receipts.items ≡ old.receipts.items ++ receipt ∷ [])

-- what a teller collected grew by exactly the receipts by which the list grew from `old` to `new`,
-- unless it broke off
abbrev pub CollectsWhatIsWritten : List ReceiptValue → Collector → List ReceiptValue → Collector → Type 0
CollectsWhatIsWritten old before new after =
    after.broke_off ≡ false → GrewAlike old before.receipts.items new after.receipts.items
