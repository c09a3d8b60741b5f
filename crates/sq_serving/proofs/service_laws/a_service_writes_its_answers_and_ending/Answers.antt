use Rattle.sq_serving.proofs.WroteLines.{serves_all}
use Rattle.sq_serving.proofs.service_laws.a_service_writes_its_answers_and_ending.Goals as goal

pub returns : goal.returns
returns g c = λ watch strict old new ending serves. serves_all strict (g.V.ServeWatch.Saves watch) g.W.Write.contents old new ending serves
