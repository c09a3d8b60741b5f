use Rattle.std.proofs.Common.{◌≡◌, length}
use Rattle.sq_engine.specs.Rings.{GivesArrived}
use Rattle.sq_engine.proofs.meeting.drain_rings.Given as goal

-- what arrived so far was given
abbrev pub invariant-loop : goal.invariant-loop
invariant-loop g l = record {
  parts : length l.rings ≡ l.fabric.parts;
  given : GivesArrived g.C.Client.Becomes l.fn.jobs l.fn.rings l.fn.client l.jobs l.rings l.client;
}
