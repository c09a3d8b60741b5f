use Rattle.sq_serving.proofs.Opened.{opening_serves_some}
use Rattle.sq_serving.proofs.serving.open_or_refuse.Goals as goal

pub returns-in-Ok : goal.returns-in-Ok
returns-in-Ok g c =
    opening_serves_some c.args.config.is_strict (g.V.ServeWatch.Saves c.args.watch.now) g.W.Write.contents c.in-Ok.opening c.args.outlet
    c.open_desk.result.1 c.open_desk.result.0 c.open_desk.ensures
