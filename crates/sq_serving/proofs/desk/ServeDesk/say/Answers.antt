use Rattle.sq_serving.specs.Saying.{Answered}
use Rattle.sq_serving.specs.Becoming.{desk_value}
use Rattle.sq_serving.proofs.Desks.{writes_bytes, line_speaks}
use Rattle.sq_serving.specs.ServeAnswers.{serve_answer_line}
use Rattle.sq_serving.proofs.desk.ServeDesk.say.Goals as goal

pub returns-clause-line : goal.returns-clause-line
returns-clause-line g c =
    let was = c.args.self.now in
    let contents = g.W.Write.contents in
    writes_bytes contents (serve_answer_line c.args.answer) was.lacks_memory (desk_value contents was) was.outlet c.say.new.self c.say.ensures

pub returns-clause-speaks : goal.returns-clause-speaks
returns-clause-speaks g c =
    let was = c.args.self.now in
    let contents = g.W.Write.contents in
    line_speaks (Answered c.args.answer) _ _
    (writes_bytes contents (serve_answer_line c.args.answer) was.lacks_memory (desk_value contents was) was.outlet c.say.new.self c.say.ensures)
