use Rattle.std.proofs.Common.{inr, refl}
use Rattle.sq_serving.proofs.Served.{want_serves_none}
use Rattle.sq_serving.proofs.serving.read_and_answer.Goals as goal

pub returns-in-Err : goal.returns-in-Err
returns-in-Err g c = inr (want_serves_none c.in-Err.ending c.in-Err.ensures.want, refl)
