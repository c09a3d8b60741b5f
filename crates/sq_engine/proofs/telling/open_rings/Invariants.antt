use Rattle.sq_engine.specs.Telling.{AreNewRings}
use Rattle.sq_engine.proofs.telling.open_rings.Given as goal

-- so many rings were made
abbrev pub invariant-loop-part : goal.invariant-loop-part
invariant-loop-part l = AreNewRings l._part l.tellers.items l.rings.items
