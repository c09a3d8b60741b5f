-- What is sent over a ring.
use Rattle.std.specs.Prelude.{◌≡◌, true, false, List, [], ◌∷◌, ◌++◌}
use Rattle.rtrb.specs.Ring.{sent, SameProducer}
use Rattle.sq_node_model.specs.NodeValue.{ReceiptValue}
use Rattle.sq_driver.specs.Told.{GrewAlike}
use Rattle.sq_driver.specs.declared.ring.RingTeller.{RingTeller}

-- a teller sent the receipt after the others; or it broke off, then or before, and sent nothing
pub record SendsOrBreaksOff (old : RingTeller) (receipt : ReceiptValue)
    (new : RingTeller) : Type 0 where
  pub ring : SameProducer old.producer new.producer
  pub sends : new.broke_off ≡ false
      → (old.broke_off ≡ false) × (sent new.producer ≡ sent old.producer ++ receipt ∷ [])
  pub breaks_off : new.broke_off ≡ true → sent new.producer ≡ sent old.producer

-- what a teller sent grew by exactly the receipts by which the list grew from `old` to `new`,
-- unless it broke off
abbrev pub SendsWhatIsWritten : List ReceiptValue → RingTeller → List ReceiptValue → RingTeller → Type 0
SendsWhatIsWritten old before new after =
    after.broke_off ≡ false → GrewAlike old (sent before.producer) new (sent after.producer)
