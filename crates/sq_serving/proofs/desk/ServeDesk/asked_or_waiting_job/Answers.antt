use Rattle.std.proofs.Common.{[]}
use Rattle.sq_serving.specs.Becoming.{job_list}
use Rattle.sq_serving.proofs.Desks.{hears_then}
use Rattle.sq_serving.proofs.desk.ServeDesk.asked_or_waiting_job.Goals as goal

pub returns-in-None : goal.returns-in-None
returns-in-None g c = hears_then [] (job_list c.waiting_job.result) _ _ _ c.in-None.ensures c.waiting_job.ensures
