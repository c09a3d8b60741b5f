-- What a collector has after it was told several receipts.
use Rattle.std.proofs.Common.{◌≡◌, Bool, true, false, not, List, refl, ap, sym}
use Rattle.sq_node_model.specs.NodeValue.{ReceiptValue}
use Rattle.sq_driver.specs.Told.{HasTold, GrewAlike}
use Rattle.sq_driver.proofs.Told.{told_grows, told_keeps}
use Rattle.sq_driver.specs.declared.collector.Collector.{Collector}
use Rattle.sq_driver.specs.Collected.{CollectsOrBreaksOff}

not_false : (b : Bool) → not b ≡ true → b ≡ false
not_false true e = sym e
not_false false e = refl

-- it has them after the others, unless it broke off
pub collects_all : (old new : List ReceiptValue) (before after : Collector) → HasTold CollectsOrBreaksOff old before new after → after.broke_off ≡ false
    → GrewAlike old before.receipts.items new after.receipts.items
collects_all old new before after told whole =
    told_grows CollectsOrBreaksOff (λ (t : Collector). t.receipts.items) (λ (t : Collector). not t.broke_off)
    (λ b a receipt tells still.
    let adds = tells.adds (not_false a.broke_off still) in
    (ap not adds.0, adds.1))
    old new before after told (ap not whole)

-- a collector that hasn't broken off hadn't before
abbrev GoesOn : Collector → Collector → Type 0
GoesOn old new = new.broke_off ≡ false → old.broke_off ≡ false

pub went_on : (old new : List ReceiptValue) (before after : Collector) → HasTold CollectsOrBreaksOff old before new after → after.broke_off ≡ false → before.broke_off ≡ false
went_on = told_keeps CollectsOrBreaksOff GoesOn (λ x e. e) (λ x y z one two e. one (two e)) (λ before after receipt tells e. (tells.adds e).0)
