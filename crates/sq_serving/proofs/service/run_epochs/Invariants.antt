use Rattle.sq_serving.specs.Becoming.{desk_value}
use Rattle.sq_serving.specs.Events.{HasServed}
use Rattle.sq_serving.proofs.service.run_epochs.Given as goal

-- what was served so far
abbrev pub invariant-loop : goal.invariant-loop
invariant-loop g l =
    HasServed (g.V.ServeWatch.Saves l.fn.watch) l.fn.engine (desk_value g.W.Write.contents l.fn.desk) l.engine (desk_value g.W.Write.contents l.desk)
