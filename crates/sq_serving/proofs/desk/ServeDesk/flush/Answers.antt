use Rattle.std.proofs.Common.{[]}
use Rattle.sq_serving.specs.Becoming.{desk_value}
use Rattle.sq_serving.proofs.Desks.{writes_bytes}
use Rattle.sq_serving.proofs.desk.ServeDesk.flush.Goals as goal

pub returns : goal.returns
returns g c =
    let was = c.args.self.now in
    let contents = g.W.Write.contents in
    writes_bytes contents [] was.lacks_memory (desk_value contents was) was.outlet c.flush.new.self c.flush.ensures
