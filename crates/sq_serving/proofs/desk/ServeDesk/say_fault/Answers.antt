use Rattle.sq_serving.specs.declared.serve_answer.ServeAnswer.TheVariants.{Fault}
use Rattle.sq_serving.specs.ServeAnswers.{serve_answer_line}
use Rattle.sq_serving.specs.Saying.{Answered}
use Rattle.sq_serving.specs.Becoming.{desk_value}
use Rattle.sq_serving.proofs.Desks.{noted_writes, line_speaks}
use Rattle.sq_serving.proofs.desk.ServeDesk.say_fault.Goals as goal

pub returns-clause-line : goal.returns-clause-line
returns-clause-line g c =
    let dv = desk_value g.W.Write.contents in
    let line = c.args.refusal in
    let noted = c.note_refusal.new.self in
    noted_writes (serve_answer_line (Fault line.number line.place.line line.id)) noted.end (dv c.args.self.now) (dv noted) (dv c.say.new.self)
    c.note_refusal.ensures.value c.note_refusal.ensures.keeps c.say.ensures.line

pub returns-clause-speaks : goal.returns-clause-speaks
returns-clause-speaks g c =
    let dv = desk_value g.W.Write.contents in
    let line = c.args.refusal in
    let noted = c.note_refusal.new.self in
    let answer = Fault line.number line.place.line line.id in
    line_speaks (Answered answer) (dv c.args.self.now) (dv c.say.new.self)
    (noted_writes (serve_answer_line answer) noted.end (dv c.args.self.now) (dv noted) (dv c.say.new.self) c.note_refusal.ensures.value
    c.note_refusal.ensures.keeps c.say.ensures.line)
