use Rattle.std.proofs.Common.{◌+◌, false, List, refl, sym, subst}
use Rattle.sq_driver.specs.declared.ring.RingTeller.{RingTeller}
use Rattle.sq_engine.specs.Telling.{Ring, AreNewRings}
use Rattle.sq_engine.proofs.Tellers.{one_more}
use Rattle.sq_engine.proofs.telling.open_rings.Goals as goal

pub loop-part-preserved : goal.loop-part-preserved
loop-part-preserved c =
    let teller : RingTeller = record { producer = c.in_ok-producer.producer; broke_off = false } in
    let ring : Ring = c.in_ok-producer.ring in
    let made = c.in_ok-producer.ensures in
    subst (λ (p : List RingTeller × List Ring). AreNewRings (c.loop-part._part + 1) p.0 p.1)
    (λ k. (sym c.in_ok-push_back.ensures.items k, sym c.in_ok-push.ensures.items k))
    (one_more c.loop-part._part c.loop-part.tellers.items c.loop-part.rings.items teller ring c.loop-part.invariant
    (record { goes_on = refl; pair = made.pair; none_sent = made.producer.0; none_received = made.consumer.0 }))
