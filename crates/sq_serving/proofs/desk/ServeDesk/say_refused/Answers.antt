use Rattle.sq_text.specs.Texts.{refused_line}
use Rattle.sq_serving.specs.Saying.{Refused}
use Rattle.sq_serving.specs.Becoming.{desk_value}
use Rattle.sq_serving.proofs.Desks.{over, writes_bytes, noted_writes, line_speaks}
use Rattle.sq_serving.proofs.desk.ServeDesk.say_refused.Goals as goal

pub returns-clause-line : goal.returns-clause-line
returns-clause-line g c =
    let contents = g.W.Write.contents in
    let noted = c.note_refusal.new.self in
    let before = desk_value contents noted in
    let bytes = refused_line c.args.refusal.number in
    let after = over contents noted.lacks_memory before c.say_refused.new.self in
    noted_writes bytes noted.end (desk_value contents c.args.self.now) before after c.note_refusal.ensures.value c.note_refusal.ensures.keeps
    (writes_bytes contents bytes noted.lacks_memory before noted.outlet c.say_refused.new.self c.say_refused.ensures)

pub returns-clause-speaks : goal.returns-clause-speaks
returns-clause-speaks g c =
    let contents = g.W.Write.contents in
    let noted = c.note_refusal.new.self in
    let before = desk_value contents noted in
    let bytes = refused_line c.args.refusal.number in
    let after = over contents noted.lacks_memory before c.say_refused.new.self in
    line_speaks (Refused c.args.refusal.number) (desk_value contents c.args.self.now) after
    (noted_writes bytes noted.end (desk_value contents c.args.self.now) before after c.note_refusal.ensures.value c.note_refusal.ensures.keeps
    (writes_bytes contents bytes noted.lacks_memory before noted.outlet c.say_refused.new.self c.say_refused.ensures))
