use Rattle.std.proofs.Common.{◌≡◌, Bool, true, false, not, refl, ap, sym, ◌∙◌}
use Rattle.rtrb.specs.Ring.{sent, SameProducer}
use Rattle.sq_driver.proofs.Told.{told_grows, told_keeps}
use Rattle.sq_driver.specs.declared.ring.RingTeller.{RingTeller}
use Rattle.sq_driver.specs.Sent.{SendsOrBreaksOff}
use Rattle.sq_driver.proofs.teller_laws.a_ring_sends_what_is_written.Goals as goal

not_false : (b : Bool) → not b ≡ true → b ≡ false
not_false true e = sym e
not_false false e = refl

-- it sends on the same ring
abbrev SameRing : RingTeller → RingTeller → Type 0
SameRing old new = SameProducer old.producer new.producer

pub returns-clause-sent : goal.returns-clause-sent
returns-clause-sent c old new before after told whole =
    told_grows SendsOrBreaksOff (λ (t : RingTeller). sent t.producer) (λ (t : RingTeller). not t.broke_off)
    (λ b a receipt tells still.
    let sends = tells.sends (not_false a.broke_off still) in
    (ap not sends.0, sends.1))
    old new before after told (ap not whole)

pub returns-clause-ring : goal.returns-clause-ring
returns-clause-ring c =
    told_keeps SendsOrBreaksOff SameRing
    (λ x. ((refl, refl, refl, refl), refl))
    (λ x y z one two. ((two.0.0 ∙ one.0.0, two.0.1 ∙ one.0.1, two.0.2 ∙ one.0.2, two.0.3 ∙ one.0.3), two.1 ∙ one.1))
    (λ before after receipt tells. tells.ring)
