use Rattle.std.proofs.Common.{◌≡◌, length}
use Rattle.sq_engine.specs.Rings.{GivesArrived}
use Rattle.sq_engine.proofs.meeting.wait_for_nodes.Given as goal

-- what arrived so far was given
abbrev pub invariant-loop-turn : goal.invariant-loop-turn
invariant-loop-turn g l = record {
  parts : length l.rings ≡ l.fabric.parts;
  given : GivesArrived g.C.Client.Becomes l.fn.jobs l.fn.rings l.fn.client l.jobs l.rings l.client;
}
