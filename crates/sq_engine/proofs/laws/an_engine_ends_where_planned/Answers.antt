use Rattle.sq_engine.proofs.Endings.{ends_as_planned}
use Rattle.sq_engine.proofs.laws.an_engine_ends_where_planned.Goals as goal

pub returns : goal.returns
returns c = ends_as_planned
