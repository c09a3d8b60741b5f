use Rattle.sq_serving.specs.Saying.{rows_told}
use Rattle.sq_serving.specs.Becoming.{desk_value}
use Rattle.sq_serving.proofs.Desks.{writes_bytes}
use Rattle.sq_serving.proofs.desk.ServeDesk.say_rows.Goals as goal

pub returns : goal.returns
returns g c =
    let was = c.args.self.now in
    let contents = g.W.Write.contents in
    writes_bytes contents (rows_told c.args.lines.now) was.lacks_memory (desk_value contents was) was.outlet c.say_rows.new.self c.say_rows.ensures
