use Rattle.sq_serving.proofs.Served.{events_grow}
use Rattle.sq_serving.proofs.Written.{happen_write}
use Rattle.sq_serving.proofs.service_laws.a_service_writes_each_answer.Goals as goal

pub returns-clause-grows : goal.returns-clause-grows
returns-clause-grows g c = λ watch old new before after events happened. events_grow (g.V.ServeWatch.Saves watch) events old before new after happened

pub returns-clause-writes : goal.returns-clause-writes
returns-clause-writes g c = λ watch old new before after events happened. happen_write (g.V.ServeWatch.Saves watch) events old before new after happened
