use Rattle.sq_laws.proofs.Refused.{refused_stays}
use Rattle.sq_laws.proofs.a_refused_step_changes_nothing.Goals as goal

pub returns : goal.returns
returns c = refused_stays
