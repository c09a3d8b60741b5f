use Rattle.sq_laws.proofs.Histories.{family_fits}
use Rattle.sq_laws.proofs.fit.a_history_leaves_fit_families.Goals as goal

pub returns : goal.returns
returns c = family_fits
