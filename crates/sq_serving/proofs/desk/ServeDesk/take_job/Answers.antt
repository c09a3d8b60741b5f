use Rattle.std.proofs.Common.{◌≤◌, length, arith}
use Rattle.sq_serving.proofs.Desks.{job_refused}
use Rattle.sq_serving.proofs.desk.ServeDesk.take_job.Goals as goal

pub returns-else-part-from-clause-handles : goal.returns-else-part-from-clause-handles
returns-else-part-from-clause-handles g c =
    let beyond : length c.args.self.now.sides ≤ c.args.part = omega arith in
    job_refused c.args.part c.args.place c.args.txn _ _ beyond c.refuse_job.ensures
