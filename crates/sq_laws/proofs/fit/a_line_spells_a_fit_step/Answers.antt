use Rattle.sq_laws.proofs.Steps.{spelled_fits}
use Rattle.sq_laws.proofs.fit.a_line_spells_a_fit_step.Goals as goal

pub returns : goal.returns
returns c = spelled_fits
