use Rattle.sq_audit.proofs.TrueLogs.{true_log}
use Rattle.sq_audit.proofs.laws.the_told_log_is_the_log.Goals as goal

pub returns : goal.returns
returns c = λ o g spot root family log placed stands long tells. true_log o g placed spot root family stands log long tells
