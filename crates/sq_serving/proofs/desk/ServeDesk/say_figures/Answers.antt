use Rattle.sq_serving.specs.ServeAnswers.{status_line}
use Rattle.sq_serving.specs.Becoming.{desk_value}
use Rattle.sq_serving.proofs.Desks.{writes_bytes}
use Rattle.sq_serving.proofs.desk.ServeDesk.say_figures.Goals as goal

pub returns : goal.returns
returns g c =
    let was = c.args.self.now in
    let contents = g.W.Write.contents in
    writes_bytes contents (status_line c.args.status c.args.figures.now) was.lacks_memory (desk_value contents was) was.outlet c.say_status.new.self c.say_status.ensures
