use Rattle.std.proofs.Common.{refl}
use Rattle.sq_serving.proofs.Desks.{same_hears}
use Rattle.sq_serving.proofs.desk.ServeDesk.job_tried_again.Goals as goal

pub returns-then-self-ne0 : goal.returns-then-self-ne0
returns-then-self-ne0 g c = same_hears _ _ refl
