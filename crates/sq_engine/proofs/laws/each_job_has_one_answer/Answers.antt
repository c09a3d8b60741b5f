use Rattle.sq_engine.proofs.Jobs.{one_answer}
use Rattle.sq_engine.proofs.laws.each_job_has_one_answer.Goals as goal

pub returns : goal.returns
returns c = one_answer
