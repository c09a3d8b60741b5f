use Rattle.sq_serving.proofs.Sayings.{rows_said}
use Rattle.sq_serving.proofs.outlet.Outlet.say_rows.Goals as goal

pub returns : goal.returns
returns g c =
    rows_said g.W.Write.contents c.args.self.now c.say_lines.new.self c.say.new.self c.args.lines.now c.lines_in.result c.lines_in.ensures
    c.say_lines.ensures c.say.ensures
