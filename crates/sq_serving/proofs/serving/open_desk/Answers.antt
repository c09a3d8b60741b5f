use Rattle.std.proofs.Common.{subst}
use Rattle.sq_serving.specs.declared.outlet.Outlet.{Outlet}
use Rattle.sq_serving.specs.Becoming.{ServeDeskValue, desk_value}
use Rattle.sq_serving.specs.Service.{ServesOpening}
use Rattle.sq_serving.proofs.serving.open_desk.Goals as goal

pub returns-in-Ok : goal.returns-in-Ok
returns-in-Ok g c =
    let contents = g.W.Write.contents in
    let saves = g.V.ServeWatch.Saves c.args.watch.now in
    let desk = c.in-Ok.desk in
    let came = c.open_engine.result in
    subst (λ (d : ServeDeskValue). ServesOpening saves contents c.args.opening d c.args.outlet came.1 came.0) c.in-Ok.ensures.desk
    (subst (λ (o : Outlet _). ServesOpening saves contents c.args.opening (desk_value contents desk) o came.1 came.0) c.in-Ok.ensures.outlet
    c.open_engine.ensures)
