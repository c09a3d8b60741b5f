use Rattle.sq_serving.specs.ServeAnswers.{json_line}
use Rattle.sq_serving.specs.Becoming.{desk_value}
use Rattle.sq_serving.proofs.Desks.{writes_bytes}
use Rattle.sq_serving.proofs.desk.ServeDesk.say_json.Goals as goal

pub returns : goal.returns
returns g c =
    let was = c.args.self.now in
    let contents = g.W.Write.contents in
    writes_bytes contents (json_line c.args.text.now) was.lacks_memory (desk_value contents was) was.outlet c.say_json.new.self c.say_json.ensures
