use Rattle.std.proofs.Common.{◌≡◌, ◌+◌, ◌++◌, length}
use Rattle.rtrb.specs.Ring.{received, known_items, SameConsumer}
use Rattle.sq_engine.specs.Rings.{GivesGrown}
use Rattle.sq_engine.proofs.rings.give_known.Given as goal

-- some of what was known arrived, and it is known how much is still to come
abbrev pub invariant-loop-receipt : goal.invariant-loop-receipt
invariant-loop-receipt g l = record {
  ring : SameConsumer l.fn.ring l.ring;
  all : received l.ring ++ known_items l.ring ≡ received l.fn.ring ++ known_items l.fn.ring;
  left : l._receipt + length (known_items l.ring) ≡ l.known;
  given : GivesGrown g.C.Client.Becomes l.part l.fn.jobs (received l.fn.ring) l.fn.client l.jobs (received l.ring) l.client;
}
