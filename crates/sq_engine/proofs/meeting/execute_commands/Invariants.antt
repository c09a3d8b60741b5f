use Rattle.sq_engine.specs.Clients.{InStage, DoesCommand}
use Rattle.sq_engine.proofs.meeting.execute_commands.Given as goal

-- commands were executed so far
abbrev pub invariant-loop-command : goal.invariant-loop-command
invariant-loop-command g l =
    DoesCommand l.fabric.parts (InStage l.gate.segments g.C.Client.Becomes) l.fn.jobs l.fn.client l.jobs l.client
