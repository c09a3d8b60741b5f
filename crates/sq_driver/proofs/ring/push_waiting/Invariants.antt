use Rattle.std.proofs.Common.{◌≡◌}
use Rattle.rtrb.specs.Ring.{sent, SameProducer}
use Rattle.sq_driver.proofs.ring.push_waiting.Given as goal

-- nothing was sent so far
abbrev pub invariant-loop : goal.invariant-loop
invariant-loop g l = SameProducer l.initial.producer l.producer × (sent l.producer ≡ sent l.initial.producer) × (l.receipt ≡ l.initial.receipt)
