use Rattle.sq_serving.proofs.Planned.{served_planned}
use Rattle.sq_serving.proofs.service_laws.a_service_ends_where_planned.Goals as goal

pub returns : goal.returns
returns g c = λ watch o closed is. served_planned (g.V.ServeWatch.Saves watch) o closed is
