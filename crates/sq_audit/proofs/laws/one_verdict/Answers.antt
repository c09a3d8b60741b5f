use Rattle.sq_audit.proofs.Defects as defects
use Rattle.sq_audit.proofs.laws.one_verdict.Goals as goal

pub returns : goal.returns
returns c = defects.one_verdict
