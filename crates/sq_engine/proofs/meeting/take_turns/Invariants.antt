use Rattle.std.proofs.Common.{◌≡◌, true, length}
use Rattle.sq_engine.specs.Clients.{InStage}
use Rattle.sq_engine.specs.Rings.{Serves}
use Rattle.sq_engine.proofs.meeting.take_turns.Given as goal

-- the client was served so far
abbrev pub invariant-loop : goal.invariant-loop
invariant-loop g l = record {
  parts : length l.rings ≡ l.fabric.parts;
  serves : Serves (InStage l.gate.segments g.C.Client.Becomes) l.fn.jobs l.fn.rings l.fn.client l.jobs l.rings l.client true;
}
