use Rattle.std.proofs.Common.{◌≡◌}
use Rattle.rtrb.specs.Ring.{sent, SameProducer}
use Rattle.sq_serving.proofs.feed.give.Given as goal

-- nothing was sent so far
abbrev pub invariant-loop : goal.invariant-loop
invariant-loop g l = SameProducer l.initial.feed l.feed × (sent l.feed ≡ sent l.initial.feed) × (l.given ≡ l.initial.given)
