use Rattle.std.proofs.Common.{ℕ, List, subst}
use Rattle.sq_serving.specs.ServeAnswers.{plan_line}
use Rattle.sq_serving.specs.Becoming.{desk_value, WritesBytes}
use Rattle.sq_serving.proofs.Desks.{over, writes_bytes}
use Rattle.sq_serving.proofs.desk.ServeDesk.say_plan.Goals as goal

pub returns : goal.returns
returns g c =
    let was = c.args.self.now in
    let contents = g.W.Write.contents in
    let before = desk_value contents was in
    let after = over contents was.lacks_memory before c.say_plan.new.self in
    subst (λ (text : List ℕ). WritesBytes (plan_line text) before after) c.as_str.ensures
    (writes_bytes contents (plan_line c.as_str.result.now) was.lacks_memory before was.outlet c.say_plan.new.self c.say_plan.ensures)
