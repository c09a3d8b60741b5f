use Rattle.sq_audit.proofs.TrueLogs.{logs_posted}
use Rattle.sq_audit.proofs.laws.logs_have_jobs_alone.Goals as goal

pub returns : goal.returns
returns c = logs_posted
