use Rattle.std.proofs.Common.{[]}
use Rattle.sq_serving.specs.Becoming.{desk_value, Hears}
use Rattle.sq_serving.proofs.desk.ServeDesk.asked_job.Given as goal

-- no job was offered so far
abbrev pub invariant-loop-line : goal.invariant-loop-line
invariant-loop-line g l =
    Hears [] (desk_value g.W.Write.contents l.initial.self) [] (desk_value g.W.Write.contents l.self)
